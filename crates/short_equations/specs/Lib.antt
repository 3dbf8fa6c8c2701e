pub mod Standing
pub mod Signals
pub mod Edges
pub mod Sights
pub mod ItemEdges
pub mod PartItems
pub mod Fragments
pub mod Pairs
