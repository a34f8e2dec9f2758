pub mod Numeral
pub mod Printing
