pub mod Accepting
pub mod Lines
pub mod Peers
pub mod Staying
pub mod Visits
pub mod Listening
pub mod Telling
