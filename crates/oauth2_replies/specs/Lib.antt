pub mod Kept
pub mod Token
pub mod Device
pub mod Revocable
pub mod Extra
pub mod private
