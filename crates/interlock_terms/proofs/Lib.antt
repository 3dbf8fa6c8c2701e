pub mod TermLemmas
pub mod SolveLemmas
