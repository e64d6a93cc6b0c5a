pub mod Text
pub mod Position
pub mod WrongWords
pub mod Tokenizing
pub mod Chunks
pub mod NumberWords
pub mod ShortNumbers
