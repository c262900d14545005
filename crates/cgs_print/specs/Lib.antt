pub mod Printing
pub mod History
pub mod Locating
pub mod Discovery
pub mod Summary
pub mod Telling
