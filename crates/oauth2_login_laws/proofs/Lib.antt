pub mod Keys
pub mod Lists
pub mod Answers
pub mod Runs
pub mod Counts
pub mod Numbers
pub mod Servers
pub mod Finishes
