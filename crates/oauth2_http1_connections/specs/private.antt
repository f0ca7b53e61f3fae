-- Definitions cited only by private functions.
pub mod Position
pub mod Told
