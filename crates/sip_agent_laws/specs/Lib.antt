pub mod Agents
pub mod Calls
pub mod Histories
pub mod Repeats
pub mod Transactions
