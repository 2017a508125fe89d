pub mod Texts
pub mod Lines
pub mod Printing
pub mod Replies
pub mod Endings
pub mod Fronts
pub mod Openings
pub mod RuleLines
