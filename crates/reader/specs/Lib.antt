pub mod Faults
pub mod Values
pub mod Tables
pub mod Reading
pub mod Laws
pub mod Numbers
