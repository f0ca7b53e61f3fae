pub mod Request
pub mod Source
pub mod Runs
pub mod ErrorTexts
pub mod Lending
