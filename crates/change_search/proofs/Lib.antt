pub mod TellingLemmas
mod PartLemmas
pub mod AllowLemmas
mod GivenLemmas
pub mod WidthLemmas
