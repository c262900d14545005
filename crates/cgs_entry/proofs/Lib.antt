pub mod ConditionLemmas
pub mod AddingLemmas
pub mod SingleLemmas
pub mod ExampleLemmas
pub mod CoverLemmas
pub mod OneLemmas
pub mod BasisLemmas
pub mod IndexLemmas
