pub mod Polynomial
pub mod Flat
pub mod Draft
pub mod Merge
pub mod Product
