pub mod Pairs
pub mod Marks
