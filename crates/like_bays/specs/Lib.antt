pub mod Like
pub mod Kept
