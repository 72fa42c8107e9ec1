pub mod WriteLaws
pub mod FillLaws
