pub mod Limits
pub mod Answers
pub mod Pause
pub mod Sleeping
pub mod Unsent
pub mod Repeats
pub mod Laws
pub mod private
