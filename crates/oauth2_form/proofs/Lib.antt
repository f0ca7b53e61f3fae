pub mod BasicLemmas
pub mod FormLaws
pub mod WrittenLemmas
pub mod FormEncodingLemmas
pub mod QueryLaws
pub mod LengthLaws
