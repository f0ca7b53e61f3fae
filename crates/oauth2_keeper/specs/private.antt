-- Definitions that only private clauses cite.
pub mod Params
pub mod Settled
