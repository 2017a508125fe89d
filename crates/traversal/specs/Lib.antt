pub mod Walks
pub mod Rows
pub mod Counting
pub mod Bytes
pub mod Pendings
pub mod Comparing
