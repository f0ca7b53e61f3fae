pub mod Choices
pub mod Constants
pub mod Forms
pub mod Residues
pub mod Sums
