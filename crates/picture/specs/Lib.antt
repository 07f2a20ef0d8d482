pub mod Asides
pub mod Drawing
pub mod Lanes
pub mod Marks
pub mod Phrases
pub mod Rows
pub mod Sheet
