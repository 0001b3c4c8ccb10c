pub mod KnownBytes
pub mod Fronts
