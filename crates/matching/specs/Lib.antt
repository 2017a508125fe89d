pub mod Peeling
pub mod Fitting
pub mod Matching
pub mod Onward
pub mod Surveying
pub mod Sizing
pub mod Room
