pub mod Places
pub mod Objects
pub mod Pairs
pub mod Memory
