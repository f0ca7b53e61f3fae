pub mod Assertion
pub mod Audience
pub mod ErrorTexts
pub mod Signing
pub mod private
