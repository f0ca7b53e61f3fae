pub mod Details
pub mod FaultText
pub mod Shown
pub mod private
