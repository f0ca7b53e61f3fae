pub mod Provider
pub mod Login
pub mod Start
pub mod Refusal
pub mod End
pub mod private
