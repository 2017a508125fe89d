pub mod Symbols
pub mod Plans
pub mod Compiled
