pub mod Next
pub mod Records
pub mod Places
pub mod BayLemmas
