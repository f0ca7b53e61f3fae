pub mod TokenGrant
pub mod Extension
pub mod Assertion
pub mod ExchangeToken
pub mod Push
pub mod Grant
