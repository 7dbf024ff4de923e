pub mod Copies
pub mod Tags
pub mod Stamps
pub mod Sums
pub mod Ips
pub mod Wildcards
pub mod SameKeys
