pub mod Turns
pub mod Stands
pub mod Telling
pub mod Comparing
pub mod Laws
