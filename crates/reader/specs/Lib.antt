pub mod Heading
pub mod Machine
pub mod Parsing
pub mod Ticket
