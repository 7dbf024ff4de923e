-- Steps that only the crate's own calls cite: nothing of them has to be believed.
pub mod Columns
pub mod Drafted
pub mod OneLook
pub mod PlainLine
