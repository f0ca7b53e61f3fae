pub mod Event
pub mod Run
pub mod Laws
pub mod Finish
