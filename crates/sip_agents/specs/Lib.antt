pub mod Destination
pub mod Laws
pub mod Steps
pub mod Stripes
