pub mod Outlines
pub mod Walking
pub mod Compilable
pub mod FromRules
pub mod Noting
