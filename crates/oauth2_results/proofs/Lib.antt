pub mod Sleeps
pub mod PairLines
pub mod NotUtf8
