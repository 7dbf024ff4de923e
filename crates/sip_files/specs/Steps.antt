-- Steps that only the proofs of the code need: there is nothing in them to believe.
pub mod Drafting
pub mod Form
pub mod Lines
pub mod ReadLine
pub mod Reading
