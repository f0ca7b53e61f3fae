pub mod Names
pub mod Pairs
pub mod Whole
pub mod Tables
