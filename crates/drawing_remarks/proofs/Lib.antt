pub mod Loops
pub mod Words
pub mod Parents
pub mod JoinLemmas
pub mod SaidLemmas
pub mod RemarkRows
