pub mod Steps
pub mod Passes
pub mod Tables
pub mod Theorems
