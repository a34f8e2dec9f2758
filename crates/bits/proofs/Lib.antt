pub mod Bools
pub mod BitLaws
pub mod Any
