pub mod ByNameLemmas
pub mod CopyLemmas
pub mod ParamsLemmas
pub mod OnceLemmas
