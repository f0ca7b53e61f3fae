pub mod AtEndpoint
pub mod ErrorTexts
pub mod Started
pub mod Stored
