pub mod Testing
mod Fetched
mod Reviewed
mod Verified
