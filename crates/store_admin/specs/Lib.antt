pub mod Numbers
pub mod Operating
pub mod Dump
pub mod Changing
