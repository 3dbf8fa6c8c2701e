pub mod Words
pub mod Beginnings
pub mod Reading
pub mod Defined
pub mod ReadText
pub mod Faults
pub mod Stops
pub mod Entries
