pub mod Progress
pub mod Weighings
pub mod Values
pub mod Sides
pub mod Reading
pub mod Rules
