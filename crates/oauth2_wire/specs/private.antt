-- Definitions cited only by private functions.
pub mod Headers
pub mod Failure
