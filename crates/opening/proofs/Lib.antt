pub mod Codes
pub mod Heads
pub mod Opens
pub mod Stamp
pub mod Walks
pub mod Shapes
