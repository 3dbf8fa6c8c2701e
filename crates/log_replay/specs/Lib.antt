pub mod Records
pub mod RecordFaults
pub mod Log
pub mod Following
pub mod Replay
pub mod Telling
