pub mod Collects
pub mod Judging
pub mod Within
