pub mod Codes
pub mod ErrorMembers
