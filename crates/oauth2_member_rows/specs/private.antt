-- Lemmas that the laws of the rows cite.
pub mod RowLaws
