pub mod GrowLemmas
pub mod ExtremeLemmas
mod MarkedLemmas
mod StateLemmas
mod TextLemmas
