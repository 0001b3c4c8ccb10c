pub mod Answering
pub mod Check
pub mod Given
pub mod Reply
