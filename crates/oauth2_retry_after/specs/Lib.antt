pub mod Busy
pub mod ErrorTexts
pub mod RetryAfter
