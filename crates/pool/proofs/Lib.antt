pub mod Reducings
