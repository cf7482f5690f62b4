pub mod CastingLaws
pub mod CastingSteps
pub mod Counting
pub mod SumLaws
pub mod SumSteps
pub mod Tables
