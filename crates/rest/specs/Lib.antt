pub mod Rounds
pub mod Promises
pub mod Cases
