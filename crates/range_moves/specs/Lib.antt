pub mod Placements
pub mod Laws
pub mod Orders
pub mod Traffic
