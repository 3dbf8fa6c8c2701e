pub mod Equations
pub mod BlockLines
pub mod BlockFaults
pub mod Positions
pub mod Findings
pub mod AuditText
