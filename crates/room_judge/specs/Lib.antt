pub mod Stored
pub mod Extent
pub mod Judged
pub mod Spot
pub mod Halted
pub mod Closed
