pub mod Layout
pub mod Spelling
