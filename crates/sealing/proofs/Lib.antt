pub mod Numbers
pub mod Numbering
pub mod Outcomes
pub mod Kept
pub mod LookedUp
pub mod JoinedSealing
pub mod Gathering
pub mod Checking
