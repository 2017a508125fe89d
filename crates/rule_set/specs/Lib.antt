pub mod Members
