pub mod Reach
pub mod Closing
pub mod Closure
