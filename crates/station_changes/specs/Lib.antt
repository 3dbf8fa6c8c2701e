pub mod Covers
pub mod Compare
pub mod Arranged
