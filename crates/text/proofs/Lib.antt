pub mod Laying
pub mod Numerals
