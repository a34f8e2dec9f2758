pub mod Answer
pub mod Blob
