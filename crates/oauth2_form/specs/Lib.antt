pub mod Pairs
pub mod Basic
pub mod Params
pub mod FormEncoding
pub mod ExtendsForm
pub mod Length
pub mod Query
pub mod private
