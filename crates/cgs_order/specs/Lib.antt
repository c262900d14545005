pub mod TermOrder
pub mod Laws
pub mod Words
