mod WordLemmas
mod LoneLemmas
pub mod TwinLemmas
mod ExtendLemmas
mod BayLemmas
mod ListLemmas
pub mod MirrorLemmas
mod WideLemmas
mod LikeLemmas
mod IdleLemmas
mod WalkLemmas
mod OrderLemmas
mod NarrowLemmas
mod SharingLemmas
mod StockLemmas
