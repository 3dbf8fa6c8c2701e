pub mod Tallying
pub mod WorkText
