pub mod ScanLemmas
pub mod NumberLemmas
pub mod TokenLemmas
