pub mod Asking
pub mod Calls
pub mod Kept
pub mod Lent
pub mod RunLaws
