pub mod Steps
pub mod UndoLemmas
pub mod RulingLemmas
pub mod LineLemmas
pub mod TextLemmas
