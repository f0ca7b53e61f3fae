pub mod ErrorTexts
pub mod KeyText
pub mod Octets
pub mod Pkcs1
pub mod Pss
pub mod PublicKey
pub mod Signature
pub mod private
