pub mod Outcomes
pub mod Takings
pub mod Heard
