-- Worked examples of steps, and of what is listed.
pub mod Worlds
pub mod Rows
pub mod Records
pub mod Listings
