pub mod Model
pub mod Calls
pub mod History
pub mod Demand
pub mod Refusals
