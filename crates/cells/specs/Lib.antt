pub mod Corners
pub mod Triangulation
pub mod Counting
pub mod Cells
pub mod Ways
