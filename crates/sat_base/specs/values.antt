pub mod Literals
pub mod Clauses
pub mod Numerals
pub mod Packed
pub mod Formulas
pub mod Flat
pub mod Hashes
pub mod Tables
