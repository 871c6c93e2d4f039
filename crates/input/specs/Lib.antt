pub mod Prefix
pub mod Reading
pub mod Reason
