pub mod BearerGrants
pub mod Extension
pub mod GrantText
pub mod TokenExchange
pub mod private
pub mod ExchangeErrors
pub mod ExchangeFields
pub mod authorization_details
