pub mod NewRoom
pub mod Making
pub mod Opening
pub mod Recognizing
pub mod Migrating
pub mod Counting
