pub mod NoFloats
pub mod Discovery
pub mod Redirects
pub mod IdTokens
pub mod Kept
pub mod Written
pub mod Reading
