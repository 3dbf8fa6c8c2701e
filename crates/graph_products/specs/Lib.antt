pub mod Products
pub mod Layering
pub mod Seating
