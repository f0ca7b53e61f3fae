pub mod Parameters
pub mod FaultText
pub mod Response
pub mod Pushed
pub mod private
