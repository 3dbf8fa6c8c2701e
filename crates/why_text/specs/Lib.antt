pub mod Devices
pub mod WhyLines
pub mod WhyText
