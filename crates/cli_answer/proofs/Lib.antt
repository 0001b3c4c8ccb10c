mod Groups
mod Texts
mod Distinct
