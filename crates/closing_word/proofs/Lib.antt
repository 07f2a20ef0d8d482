pub mod Steps
pub mod Sendable
