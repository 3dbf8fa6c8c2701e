pub mod Rows
pub mod App
