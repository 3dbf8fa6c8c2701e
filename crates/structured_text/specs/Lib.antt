pub mod Meaning
pub mod Reads
pub mod Order
pub mod Width
pub mod Spelling
pub mod Within
pub mod Sides
