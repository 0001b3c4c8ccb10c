pub mod Ends
pub mod SoundParts
pub mod Sites
pub mod Targets
pub mod Filled
pub mod Blamed
