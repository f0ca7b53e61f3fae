-- Definitions that only private clauses and lemmas cite.
pub mod Kept
pub mod Found
pub mod Groups
