pub mod Steps
pub mod K1
pub mod J1
pub mod Laws
pub mod Records
