pub mod Requests
pub mod StepText
pub mod Session
pub mod SessionEnds
pub mod Reading
pub mod Progress
