pub mod OrderedMap
pub mod Lends
