pub mod Price
pub mod Levels
pub mod PointLevels
pub mod PointPrices
pub mod Listing
pub mod PointListing
