pub mod Characters
pub mod Lines
pub mod Headers
pub mod Fields
pub mod Coming
pub mod Placed
pub mod Faults
pub mod Laws
