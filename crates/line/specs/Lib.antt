pub mod Fields
pub mod Lines
pub mod Command
pub mod Answer
