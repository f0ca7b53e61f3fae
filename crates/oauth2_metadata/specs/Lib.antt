pub mod Issuer
pub mod Kinds
pub mod Metadata
pub mod EndpointFault
pub mod Reply
pub mod Request
pub mod Client
pub mod private
