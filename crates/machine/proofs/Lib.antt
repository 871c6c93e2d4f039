pub mod ByZero
pub mod Growth
pub mod Simulation
pub mod Jumps
pub mod WithoutReasons
