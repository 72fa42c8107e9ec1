pub mod OnEnd
pub mod Profiles
pub mod RosterLaws
