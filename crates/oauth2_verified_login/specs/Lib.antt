pub mod Unverified
pub mod End
pub mod Provider
pub mod hybrid
