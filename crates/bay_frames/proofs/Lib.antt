pub mod Rows
pub mod Written
pub mod SizeTests
pub mod Passing
pub mod Bodies
