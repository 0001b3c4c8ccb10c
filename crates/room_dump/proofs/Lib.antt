pub mod Counting
pub mod Depth
pub mod Dumped
pub mod Ends
pub mod Reached
pub mod Reading
pub mod Walks
pub mod Whole
