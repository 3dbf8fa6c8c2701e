pub mod Device
pub mod Edge
pub mod Image
pub mod Memory
pub mod Slots
pub mod Store
