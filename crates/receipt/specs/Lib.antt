pub mod Attestation
pub mod Kind
pub mod Possible
pub mod Writer
pub mod Verdict
