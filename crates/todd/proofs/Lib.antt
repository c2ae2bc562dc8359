pub mod Records
pub mod Starting
pub mod Crossing
pub mod Turns
pub mod K1Crossing
pub mod J1Crossing
