pub mod TripRecords
pub mod TripLogs
pub mod TripLogLines
pub mod TripReplays
