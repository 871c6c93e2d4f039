pub mod Operations
pub mod Rows
pub mod Runs
pub mod States
