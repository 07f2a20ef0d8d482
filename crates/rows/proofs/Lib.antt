pub mod Ascii
pub mod Padded
pub mod Arrays
pub mod Fitting
pub mod Decimals
pub mod Restocks
pub mod Words
pub mod Sendable
