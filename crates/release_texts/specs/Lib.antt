pub mod CheckText
pub mod ExplainText
pub mod DenialsText
