pub mod Keys
pub mod Masks
pub mod ModulusOctets
pub mod OctetNumbers
pub mod PssRepresentatives
pub mod Signatures
