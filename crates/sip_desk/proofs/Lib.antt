pub mod Parts
pub mod Rings
