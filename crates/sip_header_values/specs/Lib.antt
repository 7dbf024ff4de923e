pub mod Address
pub mod Numeral
pub mod Sequence
pub mod ViaValue
