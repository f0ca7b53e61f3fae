pub mod Cache
pub mod Decision
pub mod Lending
pub mod Runs
pub mod private
