pub mod Words
pub mod Texts
pub mod Replies
pub mod Laid
pub mod PackedTexts
pub mod Longer
pub mod Factors
pub mod Answered
