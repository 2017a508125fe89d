pub mod Nodes
pub mod Signatures
pub mod Readable
pub mod Standing
pub mod Laying
pub mod Offs
pub mod Ascii
pub mod Names
