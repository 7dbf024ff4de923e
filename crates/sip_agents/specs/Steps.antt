-- Steps that only the code's proofs need: nothing of them has to be believed.
pub mod HeaderScan
