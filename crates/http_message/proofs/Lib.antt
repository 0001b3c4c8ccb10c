pub mod Adding
mod Examples
pub mod FieldValues
pub mod Fronts
pub mod InJson
pub mod NoFloat
pub mod Printed
mod Replies
mod Routed
pub mod RulingKeys
pub mod Seeking
pub mod Tables
pub mod Targets
