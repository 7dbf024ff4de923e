pub mod InOrder
pub mod Life
pub mod Sounds
pub mod Repeats
pub mod Ledgers
pub mod Dues
