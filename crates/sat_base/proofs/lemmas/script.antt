pub mod LiteralValues
pub mod ScriptStates
pub mod NamesListed
pub mod NamesInUse
pub mod ScriptSpellings
pub mod ScriptRowsComputed
