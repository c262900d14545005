pub mod Prime
pub mod Inverse
