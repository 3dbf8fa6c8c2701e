pub mod Pushes
pub mod Numbers
pub mod RecordLemmas
pub mod WordLemmas
pub mod NumberLemmas
