pub mod Asked
pub mod Line
pub mod Command
pub mod Tasks
pub mod Reads
pub mod Stops
