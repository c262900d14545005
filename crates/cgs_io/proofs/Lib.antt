pub mod MovingLemmas
