pub mod Digests
pub mod Digests256
pub mod Digests512
