pub mod Search
pub mod Claim
pub mod Sizes
pub mod Thousandths
pub mod Residues
pub mod Halvings
pub mod Turns
pub mod Worked
