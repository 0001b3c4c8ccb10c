pub mod Pieces
pub mod Requested
pub mod Rows
mod Worked
