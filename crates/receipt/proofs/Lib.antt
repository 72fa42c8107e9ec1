pub mod Cases
pub mod Fields
pub mod Parsed
pub mod PossibleLaws
pub mod VerdictLaws
pub mod Verifier
pub mod Writing
