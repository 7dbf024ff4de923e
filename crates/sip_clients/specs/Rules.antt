pub mod Abandon
pub mod Requests
pub mod Ends
pub mod Responses
