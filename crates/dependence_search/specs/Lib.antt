pub mod Turning
pub mod Leading
pub mod RuleWalks
pub mod Released
pub mod Width
pub mod Parting
