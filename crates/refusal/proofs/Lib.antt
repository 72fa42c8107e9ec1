pub mod AnswerLaws
pub mod NumberLaws
pub mod OrderLaws
pub mod UnusedLaws
pub mod WorkLaws
