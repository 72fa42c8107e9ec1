pub mod Bits
pub mod Certificate
pub mod Tally
