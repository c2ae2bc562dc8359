pub mod Listed
pub mod Tables
mod Pricing
