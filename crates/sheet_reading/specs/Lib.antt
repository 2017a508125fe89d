pub mod Values
pub mod Sheet
pub mod Sides
pub mod Reading
pub mod Laws
pub mod Cases
