pub mod Blind
pub mod Counting
