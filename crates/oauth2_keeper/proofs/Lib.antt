pub mod AskedWaits
pub mod LendingRuns
pub mod Patience
pub mod Renewals
pub mod RunLaws
pub mod SentFaults
