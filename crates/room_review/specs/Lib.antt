pub mod Users
pub mod Standing
pub mod Table
pub mod Lines
pub mod Telling
pub mod LookedUp
pub mod Laws
