-- The rules of the server side of one Call-ID, by topic.
pub mod Arrivals
pub mod Responses
pub mod Ticks
