-- Definitions cited only by private functions.
pub mod Try
