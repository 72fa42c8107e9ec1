pub mod PaddedLaws
pub mod FieldLaws
pub mod AnswerLaws
pub mod CommandLaws
pub mod Samples
