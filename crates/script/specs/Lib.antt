pub mod Answer
pub mod Named
pub mod Script
pub mod Stream
