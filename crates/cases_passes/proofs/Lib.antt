pub mod Called
pub mod Cut
pub mod Marked
pub mod Replies
pub mod Run
