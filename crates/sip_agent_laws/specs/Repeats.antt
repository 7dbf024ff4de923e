pub mod HowOften
pub mod Later
pub mod Next
pub mod Repeats
pub mod Stories
