pub mod Checked
pub mod Done
pub mod OneFunction
pub mod WholeImage
pub mod Alike
pub mod Answered
pub mod WiderRegisters
pub mod JoinedImages
