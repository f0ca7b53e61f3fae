pub mod AuthorizationCodes
pub mod Codes
pub mod ErrorCodes
pub mod ErrorResponse
