pub mod Joining
pub mod Orders
mod Turns
mod Figures
pub mod Counting
