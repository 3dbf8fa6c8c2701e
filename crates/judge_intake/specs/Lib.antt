pub mod SharedNodes
pub mod Inputs
pub mod Ready
pub mod Coding
pub mod OwnBays
