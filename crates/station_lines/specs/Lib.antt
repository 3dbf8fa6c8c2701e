pub mod Rows
pub mod Lines
pub mod ReadBack
pub mod Aside
