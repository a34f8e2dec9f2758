pub mod Size
pub mod Refusal
pub mod Answers
pub mod Written
