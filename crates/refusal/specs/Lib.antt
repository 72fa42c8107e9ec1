pub mod Answer
pub mod Number
pub mod Order
pub mod Unwritten
pub mod Work
