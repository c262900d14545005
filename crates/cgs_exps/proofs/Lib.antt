pub mod MonomialLemmas
pub mod PlaceLemmas
pub mod MaskLemmas
pub mod LaneLemmas
