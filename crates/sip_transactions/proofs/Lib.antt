pub mod Abandoned
pub mod AfterTheEnd
pub mod AtServers
pub mod LawSteps
pub mod OneRequest
mod RequestsById
pub mod Pace
pub mod RowFacts
pub mod Rules
pub mod Passing
pub mod Firings
pub mod AckTexts
pub mod ClientRows
pub mod FewSends
