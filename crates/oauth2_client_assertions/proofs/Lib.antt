pub mod NameLemmas
pub mod RequestLemmas
pub mod LawLemmas
pub mod CallLemmas
