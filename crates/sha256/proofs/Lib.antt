pub mod HashCases
pub mod Bitwise
pub mod Bytes
pub mod Choice
pub mod Majority
pub mod Padding
pub mod Rotations
pub mod Sizes
