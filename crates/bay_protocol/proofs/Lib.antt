pub mod UnderWay
pub mod GoodStates
pub mod Keeping
pub mod Others
pub mod RecordRows
pub mod Sending
pub mod Showing
