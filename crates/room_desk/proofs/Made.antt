-- An object is made in the folder of a path's last name.
pub mod Pairs
pub mod FolderFound
pub mod FolderPlans
pub mod Uplink
pub mod Added
pub mod SoundAdded
pub mod NewObject
pub mod NewStep
pub mod ServedItems
pub mod PutMade
pub mod FolderMade
