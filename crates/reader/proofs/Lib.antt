pub mod Filling
pub mod Faulting
pub mod Fitting
pub mod Verdicts
pub mod Tables
