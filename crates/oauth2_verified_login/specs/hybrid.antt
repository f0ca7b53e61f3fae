pub mod CodeHash
pub mod FrontNonce
pub mod FrontToken
pub mod private
