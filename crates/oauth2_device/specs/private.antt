-- Definitions cited only by private functions and invariants.
pub mod Joined
pub mod Round
