pub mod Legal
pub mod Repeated
pub mod Claimed
pub mod Booking
pub mod Opening
pub mod Sendable
