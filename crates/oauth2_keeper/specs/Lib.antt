pub mod ErrorTexts
pub mod Keeper
pub mod Lends
pub mod Patience
pub mod Runs
pub mod Sources
pub mod TokenTypes
pub mod private
