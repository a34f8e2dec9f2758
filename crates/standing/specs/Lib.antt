pub mod Standing
pub mod Closed
