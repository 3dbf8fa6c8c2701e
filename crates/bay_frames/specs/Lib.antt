pub mod Row
pub mod Tests
pub mod Fields
