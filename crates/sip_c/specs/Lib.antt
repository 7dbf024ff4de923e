pub mod Addressing
pub mod Called
pub mod Journal
pub mod Owned
pub mod Status
pub mod Typed
