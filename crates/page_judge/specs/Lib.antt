pub mod Told
pub mod Opening
pub mod Desk
