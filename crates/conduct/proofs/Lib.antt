pub mod Histories
pub mod Turns
pub mod Places
pub mod Counts
pub mod Steps
pub mod Closings
pub mod Runs
