pub mod Taking
pub mod Answers
pub mod Refusals
