pub mod Headings
pub mod Stacks
pub mod Parsing
pub mod Sparse
pub mod Going
pub mod Tickets
