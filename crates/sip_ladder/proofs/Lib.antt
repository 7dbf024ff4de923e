mod Arrows
mod Distinct
pub mod Drawn
pub mod Fields
mod Legend
mod Names
pub mod Places
mod Printable
pub mod Shown
