-- Requests as steps of the machine, one and several.
pub mod Stepping
pub mod Serving
pub mod InTurn
pub mod Bounds
pub mod AskedBits
