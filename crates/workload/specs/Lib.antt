pub mod Generator
pub mod Text
pub mod Commands
pub mod Asked
