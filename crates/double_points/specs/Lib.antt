pub mod Rows
pub mod Left
pub mod Paths
pub mod Words
pub mod Positions
pub mod Filled
