pub mod Factor
pub mod Weighing
