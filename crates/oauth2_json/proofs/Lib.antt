pub mod Objects
pub mod Puts
pub mod Order
pub mod Lists
pub mod WholeValue
pub mod Words
pub mod Optionals
