pub mod Columns
pub mod Drawing
pub mod Head
pub mod Label
pub mod Row
pub mod Shapes
