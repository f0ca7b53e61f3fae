pub mod Parts
pub mod Inputs
pub mod Fields
