pub mod Loaded
pub mod Reducing
