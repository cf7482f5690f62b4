pub mod Faults
pub mod Entries
pub mod Spelling
pub mod Scratch
pub mod Writing
pub mod Laws
pub mod Filing
pub mod Numbers
