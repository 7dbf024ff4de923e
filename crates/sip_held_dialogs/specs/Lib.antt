pub mod Counted
pub mod Dialogs
pub mod Ids
pub mod Lives
pub mod OwnDialogs
pub mod Requests
pub mod Sent
