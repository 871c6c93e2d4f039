pub mod Picked
pub mod Parsed
