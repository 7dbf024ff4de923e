pub mod Dues
pub mod Put
pub mod Transfer
