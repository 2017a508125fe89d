pub mod Texts
pub mod Lines
pub mod Replies
pub mod Endings
pub mod Fronts
pub mod OneFront
pub mod Openings
