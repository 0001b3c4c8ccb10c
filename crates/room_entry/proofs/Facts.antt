-- Facts of the standard library's words that it has no lemma for, by subject. Any crate cites them.
pub mod Booleans
pub mod Lists
pub mod Members
pub mod KnownBytes
