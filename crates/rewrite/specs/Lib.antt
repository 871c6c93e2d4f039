pub mod Rewrite
pub mod Claim
pub mod Cases
pub mod AllFunctions
pub mod Neighbours
pub mod Preserved
