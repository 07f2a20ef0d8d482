pub mod Generators
pub mod Shuffles
