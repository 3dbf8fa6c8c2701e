pub mod FindLemmas
pub mod WordCounts
pub mod LeafLemmas
pub mod LineLemmas
pub mod ReadLemmas
pub mod LoopLemmas
