pub mod MonicLemmas
pub mod LocateLemmas
