pub mod Unwrapping
