-- Definitions cited only by private functions.
pub mod First
pub mod ErrorMembers
pub mod Tokens
pub mod Names
pub mod Written
