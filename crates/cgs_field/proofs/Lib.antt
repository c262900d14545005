pub mod ModularLemmas
pub mod PrimeLemmas
pub mod EuclidLemmas
pub mod InverseLemmas
