pub mod Rows
pub mod Objects
pub mod private
