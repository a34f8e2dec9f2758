pub mod End
pub mod Code
pub mod Open
pub mod Lead
pub mod Means
pub mod Table
pub mod Walk
pub mod Shape
