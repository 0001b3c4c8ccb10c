pub mod Worked
pub mod ReadBack
pub mod Next
pub mod Utf8
pub mod Taking
pub mod Fields
pub mod SeenFacts
pub mod Firsts
