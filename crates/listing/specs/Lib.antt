pub mod Decimal
pub mod Text
pub mod Places
pub mod Promises
pub mod Cases
