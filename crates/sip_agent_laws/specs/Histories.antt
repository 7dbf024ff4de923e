pub mod ClientRequests
pub mod DirectSends
pub mod HeldDialogs
pub mod OneAck
