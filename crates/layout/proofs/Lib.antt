pub mod Steps
pub mod Fields
pub mod Reading
pub mod Written
pub mod Meaning
