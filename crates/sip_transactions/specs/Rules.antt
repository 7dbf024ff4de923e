-- The rules of transactions.
pub mod Step
pub mod Tables
pub mod Timers
