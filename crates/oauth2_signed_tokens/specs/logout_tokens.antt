pub mod LogoutToken
pub mod Reading
pub mod Seen
pub mod Rules
pub mod Sessions
pub mod ErrorTexts
