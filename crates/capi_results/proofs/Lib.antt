pub mod Certificates
pub mod Done
pub mod RefusedLaws
