pub mod NoFloats
pub mod Results
pub mod Exchanges
pub mod Joined
pub mod Commands
pub mod Scopes
pub mod Polls
