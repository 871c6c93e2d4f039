pub mod NameTable
pub mod Lines
pub mod LinePlaces
pub mod Laying
pub mod Done
pub mod LinesApart
pub mod Apart
