pub mod Maps
pub mod Codes
pub mod VarData
pub mod MapViews
pub mod Flags
