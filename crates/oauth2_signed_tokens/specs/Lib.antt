pub mod access_tokens
pub mod logout_tokens
