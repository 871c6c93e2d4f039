pub mod Numbers
pub mod Sizes
pub mod Cases
