pub mod LiftLemmas
pub mod ZeroLemmas
pub mod RefutationLemmas
pub mod PartLemmas
