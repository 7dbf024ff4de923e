pub mod AtRest
pub mod NothingLeft
pub mod Open
pub mod Outcomes
pub mod UserEnds
