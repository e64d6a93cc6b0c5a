pub mod Loading
pub mod Firsts
