pub mod Worked
pub mod Replies
pub mod Hiding
pub mod Rootless
pub mod Free
pub mod Rights
pub mod Meeting
