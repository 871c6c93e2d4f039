pub mod Program
pub mod Promises
pub mod Cases
