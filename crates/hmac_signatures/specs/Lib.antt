pub mod ErrorTexts
pub mod Hmac
pub mod SecretKey
