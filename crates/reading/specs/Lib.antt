pub mod Refusals
pub mod Tokens
pub mod Numbers
pub mod Reading
pub mod Heading
pub mod HeadingLaw
pub mod Laws
pub mod Cases
