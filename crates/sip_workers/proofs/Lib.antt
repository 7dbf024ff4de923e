pub mod Permutations
pub mod Balances
pub mod Runs
pub mod Ends
pub mod Gathers
