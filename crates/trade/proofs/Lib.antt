pub mod Goods
pub mod Walras
pub mod Search
pub mod Dots
pub mod Labelling
