pub mod Fates
pub mod Answer
pub mod Claim
pub mod Promises
pub mod Steps
pub mod Cases
pub mod Told
