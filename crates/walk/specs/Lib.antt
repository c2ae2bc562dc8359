pub mod Showing
pub mod Answers
pub mod Records
pub mod Playing
