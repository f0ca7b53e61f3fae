pub mod Conversions
pub mod Finding
pub mod Keeping
pub mod Tables
pub mod Taking
pub mod Turns
