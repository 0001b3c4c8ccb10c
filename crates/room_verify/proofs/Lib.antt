pub mod Numbers
pub mod Given
pub mod Looking
pub mod Upward
pub mod Whole
pub mod Blaming
pub mod Reported
pub mod KeptAlone
