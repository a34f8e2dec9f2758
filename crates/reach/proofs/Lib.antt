pub mod Reaching
pub mod Closures
