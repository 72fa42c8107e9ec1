pub mod TextLaws
pub mod MemberLaws
pub mod WordLaws
pub mod SizeLaws
pub mod Distinct
pub mod Verdicts
