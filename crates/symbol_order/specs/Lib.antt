pub mod Symbols
pub mod SymbolLaws
pub mod Counts
