pub mod Objects
pub mod Reading
pub mod Kept
pub mod Laws
