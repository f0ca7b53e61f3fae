-- What only private clauses cite.
pub mod Asking
pub mod Names
