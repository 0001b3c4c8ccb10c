-- An object is removed.
pub mod Childless
pub mod SoundRemoved
pub mod GoneSteps
