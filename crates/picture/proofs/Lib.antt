mod Parts
mod Texts
