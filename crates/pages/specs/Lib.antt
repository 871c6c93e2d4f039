pub mod Pages
pub mod Promises
pub mod LinePlaces
pub mod Apart
pub mod Steps
pub mod Cases
pub mod Answer
