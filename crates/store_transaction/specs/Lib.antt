pub mod Transaction
pub mod Ending
pub mod Reviews
