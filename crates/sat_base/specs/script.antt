pub mod Script
pub mod Language
pub mod ScriptSpelling
pub mod ScriptRows
pub mod ScriptState
pub mod ScriptStateLaws
