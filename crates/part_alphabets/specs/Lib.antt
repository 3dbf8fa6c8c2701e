pub mod Layers
pub mod Diagrams
pub mod Targets
pub mod Counting
pub mod PartAlphabets
pub mod Alphabets
