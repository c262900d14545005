pub mod NameLemmas
pub mod ExpressionExamples
pub mod TermLemmas
