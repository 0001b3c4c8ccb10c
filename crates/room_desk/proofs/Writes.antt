-- A request writes no more than it changes.
pub mod ChangedLists
pub mod Reading
pub mod Sufficing
pub mod Placing
