pub mod Form
pub mod Reading
pub mod Operations
pub mod Claim
pub mod Steps
pub mod Cases
pub mod Answer
