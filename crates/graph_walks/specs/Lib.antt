pub mod Walks
pub mod Telling
