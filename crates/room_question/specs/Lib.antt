pub mod Cut
pub mod Faults
pub mod Items
pub mod Laws
pub mod Reading
pub mod Saying
pub mod Seen
pub mod Words
