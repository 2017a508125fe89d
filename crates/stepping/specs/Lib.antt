pub mod Growing
pub mod Keeping
pub mod Parting
pub mod Copying
pub mod Building
pub mod Stepping
