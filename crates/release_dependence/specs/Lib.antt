pub mod Depends
pub mod Operations
pub mod Exchange
