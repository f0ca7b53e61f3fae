-- What only private clauses and lemmas cite.
pub mod Found
pub mod Meanings
pub mod Taken
pub mod Texts
