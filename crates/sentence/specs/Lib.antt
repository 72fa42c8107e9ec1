pub mod Text
pub mod Sentence
pub mod Words
