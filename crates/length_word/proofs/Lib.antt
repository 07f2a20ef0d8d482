pub mod Within
pub mod Sendable
