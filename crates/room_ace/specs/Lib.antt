pub mod Faults
pub mod Text
pub mod Sent
pub mod Lists
pub mod Reading
pub mod Laws
pub mod Column
