pub mod TestsText
pub mod Fitting
