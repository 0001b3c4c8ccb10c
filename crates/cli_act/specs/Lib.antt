pub mod Doing
pub mod Acting
