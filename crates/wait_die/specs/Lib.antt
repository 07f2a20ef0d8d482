pub mod Verdicts
