pub mod Lines
pub mod Members
pub mod Dump
pub mod Visits
pub mod Telling
pub mod Fetching
pub mod Laws
