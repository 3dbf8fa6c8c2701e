pub mod Layout
pub mod Names
pub mod DrawingText
pub mod PositionsText
pub mod EventsText
pub mod Words
