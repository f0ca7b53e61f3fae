-- Definitions cited only by private functions and invariants.
pub mod EncodingTable
pub mod Written
