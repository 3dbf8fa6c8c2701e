pub mod Renaming
pub mod Calls
pub mod Wiring
pub mod Standing
pub mod Sided
