pub mod Outside
pub mod Tidy
pub mod Laws
pub mod Twins
pub mod WhoChanged
