pub mod Openings
pub mod RowStandings
pub mod Simulation
pub mod FreshChecks
pub mod Histories
pub mod Demand
pub mod Refusals
pub mod Lent
