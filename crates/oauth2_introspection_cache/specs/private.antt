-- Definitions for contracts of functions that are not exported.
pub mod Settled
