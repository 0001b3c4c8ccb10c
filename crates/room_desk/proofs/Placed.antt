-- An object gets another place: tree, names, lists, meaning.
pub mod Climbing
pub mod Relinked
pub mod PlacedParts
pub mod PlacedTree
pub mod SoundPlaced
pub mod PlacedLinks
pub mod PlacedMeaning
pub mod PlacedStates
pub mod PlacingCalls
