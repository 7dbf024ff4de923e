pub mod Steps
pub mod Streams
pub mod Journals
pub mod Shorter
