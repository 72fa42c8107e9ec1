pub mod Profile
pub mod Roster
