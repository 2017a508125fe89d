pub mod Operators
pub mod Declaring
