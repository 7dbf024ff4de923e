pub mod FaultText
pub mod Merge
pub mod Lines
pub mod Collected
