pub mod Outcome
pub mod Named
pub mod Kept
