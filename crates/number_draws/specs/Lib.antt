pub mod Words
pub mod Draws
