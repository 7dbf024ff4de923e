pub mod LastHeaders
pub mod NoFile
pub mod Repairs
pub mod Streamed
pub mod WholeLines
pub mod WordTexts
