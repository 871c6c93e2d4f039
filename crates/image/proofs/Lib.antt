pub mod Steps
pub mod Good
pub mod Shown
pub mod Again
pub mod WiderRegisters
pub mod JoinedChecks
