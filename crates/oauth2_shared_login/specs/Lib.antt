pub mod Login
pub mod Refreshing
