pub mod Absolute
pub mod Addresses
pub mod Asking
pub mod Handing
pub mod Hosting
pub mod Traits
pub mod Resuming
