pub mod Gains
pub mod Alike
pub mod Sent
pub mod Uses
