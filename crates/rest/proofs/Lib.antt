pub mod Settle
pub mod Still
pub mod Rounds
pub mod AsSent
pub mod Done
pub mod Answered
