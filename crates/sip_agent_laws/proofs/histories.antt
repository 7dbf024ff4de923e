pub mod AckTexts
pub mod CallsAfter
pub mod ClientRequests
pub mod DirectSends
pub mod HeldDialogs
pub mod OneAck
