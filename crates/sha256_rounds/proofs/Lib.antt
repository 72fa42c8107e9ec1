pub mod Schedule
pub mod Sums
