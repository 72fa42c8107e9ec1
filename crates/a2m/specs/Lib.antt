pub mod Call
pub mod ImageCalls
pub mod NewEntry
pub mod Opened
pub mod Room
pub mod Search
pub mod TableCalls
