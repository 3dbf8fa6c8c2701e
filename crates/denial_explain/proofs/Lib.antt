pub mod Places
pub mod ListingLemmas
pub mod ReachLemmas
pub mod PassLemmas
pub mod WayLemmas
pub mod EndLemmas
pub mod ClassLemmas
pub mod RuleReasons
