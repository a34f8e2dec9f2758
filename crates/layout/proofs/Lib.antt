pub mod Lists
pub mod Walks
pub mod Sound
pub mod Complete
