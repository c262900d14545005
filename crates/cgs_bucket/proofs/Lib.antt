pub mod LevelLemmas
pub mod FrontLemmas
pub mod FaultLemmas
