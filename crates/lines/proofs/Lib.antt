pub mod Names
pub mod OneMore
