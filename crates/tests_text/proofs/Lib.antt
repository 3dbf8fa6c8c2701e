pub mod GrowingLemmas
mod FittingLemmas
