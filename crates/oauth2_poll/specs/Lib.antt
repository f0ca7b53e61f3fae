pub mod State
pub mod Step
pub mod Trace
pub mod Run
pub mod Pacing
pub mod Laws
