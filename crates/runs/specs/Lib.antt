pub mod Call
pub mod Claim
pub mod Compare
pub mod Lent
pub mod Run
pub mod Scan
