pub mod Keys
pub mod Profile
pub mod Append
pub mod Rows
pub mod Drawn
pub mod Book
pub mod Filled
pub mod Population
