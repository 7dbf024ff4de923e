pub mod UriTexts
pub mod Tags
pub mod Requests
pub mod Lives
pub mod Addresses
