pub mod Tests
pub mod Same
pub mod Parts
pub mod Zeros
