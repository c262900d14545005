pub mod PartLemmas
pub mod RunLemmas
pub mod EachLemmas
pub mod CongruenceLemmas
pub mod VanishingLemmas
pub mod CaseLemmas
pub mod StepLemmas
pub mod CancellingLemmas
