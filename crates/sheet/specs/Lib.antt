pub mod Terms
pub mod Sides
pub mod Rules
pub mod Sheet
