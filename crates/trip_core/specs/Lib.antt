pub mod Trips
pub mod Learning
pub mod Happens
pub mod Facts
pub mod Start
pub mod TripLines
pub mod Used
pub mod TripRuns
