pub mod Kept
pub mod WrittenLaw
pub mod PushEnds
