pub mod Packing
pub mod Requests
