pub mod Ending
pub mod Completing
pub mod Refutable
pub mod Promising
