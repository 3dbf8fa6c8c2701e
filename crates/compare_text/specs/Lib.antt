pub mod CompareText
pub mod Mirror
