pub mod AllShards
pub mod Parts
pub mod Steps
