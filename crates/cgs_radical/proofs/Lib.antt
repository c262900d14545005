pub mod CongruenceLemmas
pub mod ProductRunLemmas
pub mod ContradictionLemmas
pub mod EmptinessLemmas
pub mod PointLemmas
pub mod RemainderLemmas
pub mod TestLemmas
