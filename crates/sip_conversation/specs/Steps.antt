-- What only the proofs of the laws need: nothing of it has to be believed.
pub mod Fair
