pub mod Drawings
pub mod Questions
