pub mod Hash
pub mod Sha256
pub mod Words
