pub mod AllLines
mod AddLemmas
