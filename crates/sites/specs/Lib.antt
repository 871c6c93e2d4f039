pub mod Sites
pub mod Validators
pub mod Numbered
pub mod AllSites
