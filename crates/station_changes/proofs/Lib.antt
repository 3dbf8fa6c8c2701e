pub mod LoadLemmas
pub mod AloneLemmas
pub mod EndLemmas
pub mod ArrangeLemmas
pub mod MirrorLemmas
