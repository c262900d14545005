pub mod Standard
pub mod Box
pub mod Laws
pub mod AtPoint
pub mod Report
pub mod Walk
