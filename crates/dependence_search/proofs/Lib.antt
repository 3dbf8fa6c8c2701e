pub mod GivenLemmas
pub mod LoneLemmas
pub mod ToldLemmas
mod WantedLemmas
mod LabelLemmas
pub mod DependLemmas
pub mod ReleasedLemmas
mod WideLemmas
mod MarkLemmas
mod PartingLemmas
mod TellingLemmas
mod ChosenLemmas
