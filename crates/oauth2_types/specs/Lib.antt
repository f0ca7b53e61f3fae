pub mod Digest
pub mod Display
pub mod Passing
pub mod Pkce
