pub mod FirstPage
pub mod FileOptions
