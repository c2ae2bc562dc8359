pub mod Lists
pub mod Legs
pub mod Path
pub mod Claim
