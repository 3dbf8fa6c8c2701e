pub mod Whatever
