pub mod Together
pub mod Taking
pub mod Joined
pub mod Chosen
