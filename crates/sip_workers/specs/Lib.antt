pub mod Balance
pub mod Ran
pub mod Seats
