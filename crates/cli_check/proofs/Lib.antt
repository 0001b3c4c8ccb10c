pub mod Checks
pub mod Ascii
pub mod Pieces
pub mod Below
pub mod Front
mod Told
