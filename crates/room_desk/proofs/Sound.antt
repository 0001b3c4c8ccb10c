-- The ways up from an object to the root, in rooted rows.
pub mod Anchored
pub mod RootedWays
