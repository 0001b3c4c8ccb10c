pub mod Lines
pub mod Numbers
pub mod Filled
pub mod Walked
pub mod Wanted
pub mod Named
pub mod Given
mod Taking
mod Worked
mod Paired
