pub mod Numbers
pub mod Admits
