pub mod Receiving
pub mod Told
mod Staying
pub mod Texts
