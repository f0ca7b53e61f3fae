-- Definitions cited only by private functions.
pub mod Part
pub mod Turns
