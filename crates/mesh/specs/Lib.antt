pub mod Refusals
pub mod Prices
pub mod Range
pub mod Points
pub mod Listing
pub mod Step
