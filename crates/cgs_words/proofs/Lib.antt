pub mod NumberLemmas
pub mod PlanLemmas
