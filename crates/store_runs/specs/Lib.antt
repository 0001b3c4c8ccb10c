pub mod Alike
pub mod Rights
pub mod Rules
