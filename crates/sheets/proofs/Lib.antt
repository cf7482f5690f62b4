pub mod Looking
pub mod Meant
