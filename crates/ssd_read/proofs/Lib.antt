pub mod Texts
pub mod Placed
pub mod Decoding
pub mod Lists
pub mod Faults
pub mod Taken
pub mod Slashes
pub mod Ended
pub mod Stepped
pub mod Linked
pub mod Once
pub mod Drawn
pub mod Numbered
pub mod Laid
pub mod Given
pub mod Tapped
pub mod NewPaths
mod TextTables
mod KeyTables
pub mod SwitchPaths
pub mod Ready
pub mod Items
pub mod Used
pub mod InOrder
pub mod AddedPaths
pub mod Counted
pub mod PathRoom
