pub mod Steps
pub mod Letters
pub mod Needing
pub mod Moved
pub mod Edges
pub mod Ready
pub mod Ending
pub mod Touching
