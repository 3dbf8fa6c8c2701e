pub mod State
pub mod Marked
pub mod StateText
