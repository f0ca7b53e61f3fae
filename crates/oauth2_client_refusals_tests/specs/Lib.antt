pub mod Additions
pub mod Counted
pub mod Posts
pub mod Recorded
pub mod Urls
