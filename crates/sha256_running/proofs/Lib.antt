pub mod Absorb
