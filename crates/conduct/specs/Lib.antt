pub mod History
pub mod Laws
pub mod Run
pub mod Conducting
