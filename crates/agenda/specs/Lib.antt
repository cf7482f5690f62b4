pub mod Faults
pub mod Questions
pub mod Agendas
pub mod Votes
pub mod Casting
pub mod Sums
