pub mod Inbound
pub mod Happening
pub mod Provisional
pub mod Ledger
pub mod Sound
