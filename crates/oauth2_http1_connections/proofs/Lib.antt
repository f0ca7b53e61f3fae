pub mod Search
pub mod Steps
pub mod Delimits
pub mod Chains
pub mod Histories
pub mod Next
pub mod KeptCarried
pub mod KeptFromBytes
