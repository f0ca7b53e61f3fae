pub mod Digests
pub mod Lengths
pub mod Through
