pub mod Awaiting
pub mod PlaceStages
pub mod Emptying
pub mod Keeping
pub mod Hands
pub mod SharedPlaces
pub mod Sendable
pub mod SolePlaces
