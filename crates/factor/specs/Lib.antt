pub mod Factor
pub mod Claim
pub mod Closed
pub mod Cases
