mod Accepted
mod Kept
mod Recorded
