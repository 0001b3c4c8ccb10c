pub mod Rooms
mod Alike
pub mod Rights
mod Worked
mod Uses
mod Rules
