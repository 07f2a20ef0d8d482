pub mod Order
pub mod InOrder
pub mod Lists
pub mod KeptDesks
pub mod NewDesks
pub mod Audited
pub mod Sendable
