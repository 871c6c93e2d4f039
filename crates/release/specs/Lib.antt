pub mod Frames
pub mod Release
pub mod Promises
pub mod Claim
pub mod Steps
pub mod Cases
