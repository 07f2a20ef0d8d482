pub mod Status
pub mod Settings
pub mod MixText
pub mod Words
pub mod CommandLine
pub mod Mistakes
pub mod Asked
