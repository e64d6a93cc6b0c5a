pub mod Luby
