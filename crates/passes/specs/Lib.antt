pub mod Passes
pub mod Promises
pub mod Steps
pub mod Worked
pub mod Joined
pub mod Rewrite
