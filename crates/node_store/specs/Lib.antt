pub mod Memory
pub mod Placed
pub mod Sound
pub mod Work
pub mod Loading
pub mod Tracing
pub mod Grafting
