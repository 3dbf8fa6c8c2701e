mod TextLemmas
pub mod MirrorLemmas
pub mod BayMirrorLemmas
