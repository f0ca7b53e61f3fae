pub mod Turns
pub mod LawLemmas
pub mod PauseLemmas
