pub mod Putting
pub mod Named
pub mod Inside
