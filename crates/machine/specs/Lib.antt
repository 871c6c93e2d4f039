pub mod Values
pub mod Evaluate
pub mod Compute
pub mod Run
pub mod Records
pub mod Runs
