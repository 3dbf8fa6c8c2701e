pub mod OrderRuling
pub mod Undoing
pub mod OrderLines
pub mod OrderText
pub mod Certain
