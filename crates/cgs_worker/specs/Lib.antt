pub mod SeatState
pub mod SharedState
pub mod Joined
