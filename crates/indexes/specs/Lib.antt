pub mod Namesakes
pub mod NameOrder
pub mod NameLaws
pub mod LatestOrder
pub mod LatestIndex
pub mod LatestLaws
