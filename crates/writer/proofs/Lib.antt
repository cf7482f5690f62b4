pub mod Asked
pub mod Spelt
pub mod Outcomes
pub mod Judged
pub mod Items
pub mod Rowed
pub mod Finished
pub mod Refiled
