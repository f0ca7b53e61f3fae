pub mod Reading
pub mod Path
pub mod Cause
pub mod Part
pub mod Device
pub mod Words
pub mod Json
pub mod Gives
