pub mod Searched
pub mod Searching
pub mod Revisits
pub mod Reducing
