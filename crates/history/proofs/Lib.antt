pub mod Recorded
pub mod Fitting
