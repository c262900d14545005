pub mod ToldPathLemmas
pub mod ToldLineLemmas
pub mod ToldListLemmas
pub mod ToldPlaceLemmas
