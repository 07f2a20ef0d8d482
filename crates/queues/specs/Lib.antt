pub mod Order
pub mod Rule
pub mod Ends
pub mod Place
pub mod NoInbox
pub mod Desks
pub mod Audited
