pub mod Allowed
pub mod Arrived
pub mod Built
pub mod Come
pub mod Bare
pub mod Done
pub mod Fitting
pub mod Followed
pub mod Joining
pub mod Placing
pub mod Rooted
pub mod Standing
pub mod Stood
pub mod Turns
pub mod Ways
mod Worked
