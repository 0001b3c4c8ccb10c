pub mod Faults
pub mod Groups
pub mod Rows
pub mod Seen
pub mod Exports
pub mod Written
