mod ListLemmas
mod TakeLemmas
mod UptoLemmas
mod PairLemmas
mod ReorderLemmas
mod PlaceLemmas
pub mod ChoiceLemmas
mod ClosedLemmas
