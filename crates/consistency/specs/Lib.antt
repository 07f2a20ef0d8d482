pub mod Totals
pub mod Balances
pub mod Carriers
pub mod OrderNumbers
pub mod Conditions
pub mod Broken
