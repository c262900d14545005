pub mod PairOrder
pub mod Rank
pub mod Runs
pub mod Passed
pub mod Unpassed
pub mod Table
pub mod Examples
