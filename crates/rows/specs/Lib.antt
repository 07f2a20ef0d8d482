pub mod Text
pub mod Ranged
pub mod Keys
pub mod Restock
pub mod Brand
pub mod StockInfo
pub mod PaymentNote
pub mod LastName
