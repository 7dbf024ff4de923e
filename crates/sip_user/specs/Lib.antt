pub mod Command
pub mod Notices
pub mod OwnCall
pub mod Refusal
