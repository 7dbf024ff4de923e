-- Steps that only the proofs of the code need: there is nothing in them to believe.
pub mod ClientMap
pub mod Over
