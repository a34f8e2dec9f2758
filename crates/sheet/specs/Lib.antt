pub mod Lines
pub mod Filed
pub mod Acks
pub mod Text
pub mod Rows
pub mod ModelText
