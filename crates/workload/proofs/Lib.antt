pub mod Numbers
pub mod Accepted
pub mod OtherWarehouses
pub mod Lines
pub mod Drawn
pub mod Scripts
pub mod Dealt
pub mod WholeScripts
