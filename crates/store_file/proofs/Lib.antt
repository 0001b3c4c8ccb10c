pub mod Finding
mod Worked
