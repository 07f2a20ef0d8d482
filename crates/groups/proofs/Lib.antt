pub mod SameGroups
pub mod Parts
pub mod RowsInGroups
pub mod RowsPut
pub mod Counts
pub mod StockGroups
pub mod Firsts
pub mod NewOrderGroups
