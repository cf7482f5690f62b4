pub mod Words
pub mod Tables
pub mod Lines
pub mod Codes
pub mod Standards
pub mod Kept
pub mod Lawful
