pub mod InClass
pub mod Readings
pub mod Trying
pub mod Knowledge
pub mod Meaning
pub mod WordRows
pub mod Names
