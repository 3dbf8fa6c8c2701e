pub mod Telling
pub mod Searching
pub mod Showing
pub mod Passing
pub mod Limits
