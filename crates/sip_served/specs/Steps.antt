-- Steps that only the proofs of the code need: there is nothing in them to believe.
pub mod Change
pub mod HeldRequests
pub mod Index
pub mod Indexed
pub mod Indices
pub mod Keys
