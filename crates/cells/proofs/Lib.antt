pub mod Pigeons
pub mod Addresses
pub mod OuterLabels
pub mod Places
pub mod Ways
