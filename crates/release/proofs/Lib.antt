pub mod Frames
pub mod Writing
pub mod Numbers
pub mod Alone
pub mod Images
pub mod Done
