pub mod Refusals
pub mod Factors
pub mod Scopes
pub mod Stages
pub mod Words
