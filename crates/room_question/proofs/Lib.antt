pub mod Cutting
pub mod Faulty
pub mod SeenMore
pub mod Spans
pub mod Standing
pub mod Worked
