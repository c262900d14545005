pub mod Monomial
pub mod Mask
pub mod Bounds
