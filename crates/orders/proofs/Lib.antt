pub mod Sums
pub mod Bounds
pub mod Worked
pub mod Defaults
pub mod Grids
pub mod Sides
pub mod Interpreting
