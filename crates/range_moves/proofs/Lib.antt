pub mod Knowing
pub mod Sendings
pub mod Located
pub mod Parcels
