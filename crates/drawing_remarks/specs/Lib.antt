pub mod Kinds
pub mod Types
pub mod Places
pub mod Drawn
pub mod Station
pub mod Labels
pub mod Remarks
pub mod StationText
