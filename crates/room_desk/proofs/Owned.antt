-- An object gets other owners.
pub mod SoundOwners
pub mod OwnersSet
