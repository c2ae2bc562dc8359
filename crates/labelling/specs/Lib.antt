pub mod Labels
pub mod Sheets
pub mod Bytes
