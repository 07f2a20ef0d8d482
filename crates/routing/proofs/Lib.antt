pub mod Sendable
