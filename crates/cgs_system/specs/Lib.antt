pub mod ExactList
pub mod Joining
pub mod Laws
pub mod Examples
