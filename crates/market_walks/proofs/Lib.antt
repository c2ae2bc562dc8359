pub mod MarketWalks
