pub mod Blamed
pub mod Given
pub mod Last
pub mod Listed
pub mod Missed
pub mod Numbers
pub mod Reviewed
pub mod Shared
pub mod Stayed
pub mod Told
pub mod Unknown
mod Worked
