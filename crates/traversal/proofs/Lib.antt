pub mod Slots
pub mod Rows
pub mod Visits
pub mod Counts
pub mod Overlays
pub mod Texts
pub mod Layings
pub mod Matches
