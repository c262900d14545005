pub mod LineLemmas
pub mod FactorLemmas
pub mod TermLemmas
pub mod MonomialLemmas
pub mod NameLemmas
pub mod ReadingLemmas
pub mod ReadingExamples
pub mod ConditionLemmas
