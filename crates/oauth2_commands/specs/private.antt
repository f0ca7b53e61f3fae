-- Definitions for contracts of functions that are not exported.
pub mod ClaimRows
pub mod Discovery
pub mod Kept
pub mod ReadErrors
pub mod Redirects
