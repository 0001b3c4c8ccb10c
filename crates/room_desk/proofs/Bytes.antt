-- A document gets other bytes.
pub mod SoundBytes
pub mod Appending
