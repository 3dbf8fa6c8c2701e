pub mod Asked
pub mod Cuts
pub mod Drawings
pub mod Later
pub mod Orders
pub mod Passing
pub mod Pieces
pub mod Resting
pub mod Serving
pub mod Stopping
pub mod Through
pub mod Naming
pub mod Storing
pub mod StoredNaming
mod Comparing
pub mod Reports
pub mod DrawnPaths
