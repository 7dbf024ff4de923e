pub mod SameLists
pub mod SameMaps
pub mod SameRests
