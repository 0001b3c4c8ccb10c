pub mod Counting
pub mod Outcome
pub mod Telling
pub mod After
