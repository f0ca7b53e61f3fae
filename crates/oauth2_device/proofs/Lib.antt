pub mod LeadsFacts
pub mod JoinedFacts
pub mod Verdicts
pub mod Rounds
pub mod Traces
