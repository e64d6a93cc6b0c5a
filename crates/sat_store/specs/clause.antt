pub mod Header
pub mod HeaderBack
pub mod Buffer
pub mod Edits
pub mod Full
