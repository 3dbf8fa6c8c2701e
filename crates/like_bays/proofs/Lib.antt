pub mod LikeLemmas
pub mod VectorLemmas
