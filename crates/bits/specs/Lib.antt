pub mod Bits
pub mod Any
