pub mod Looks
pub mod Roster
pub mod RosterKept
