pub mod History
pub mod Fits
pub mod Laws
pub mod Schedules
