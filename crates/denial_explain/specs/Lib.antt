pub mod Ways
pub mod Chains
pub mod Explained
pub mod ExplanationText
pub mod SameClass
pub mod Listing
pub mod Stepping
