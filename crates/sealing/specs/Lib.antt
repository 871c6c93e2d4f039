pub mod Sealing
pub mod Promises
pub mod Claim
pub mod Steps
pub mod Cases
pub mod Answer
