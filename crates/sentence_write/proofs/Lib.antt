pub mod LedLaws
pub mod TextLaws
