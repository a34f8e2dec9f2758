pub mod Filed
pub mod Acknowledging
pub mod RowLines
pub mod Fits
pub mod Lengths
pub mod Agreement
pub mod Printed
pub mod Demand
