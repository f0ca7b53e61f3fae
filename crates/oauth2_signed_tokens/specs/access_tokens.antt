pub mod AccessToken
pub mod Seen
pub mod Rules
pub mod Introspection
pub mod ErrorTexts
