pub mod Decides
mod Filled
