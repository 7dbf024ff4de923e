pub mod Acks
pub mod Answered
pub mod Closing
pub mod Copies
pub mod Outcomes
pub mod Timers
