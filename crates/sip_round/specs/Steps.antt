-- Steps that only the proofs of the code need: there is nothing in them to believe.
pub mod Alike
pub mod Arrived
pub mod EventRuns
pub mod Form
pub mod Led
pub mod OneMore
pub mod SetOut
pub mod Waiting
