pub mod End
pub mod Emission
