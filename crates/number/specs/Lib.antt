pub mod Number
pub mod Checked
pub mod Token
pub mod Blob
