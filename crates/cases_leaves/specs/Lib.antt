pub mod Leaves
pub mod Rows
