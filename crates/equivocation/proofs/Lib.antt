pub mod AnswerLaws
pub mod Answers
pub mod CheckLaws
pub mod FirstPairs
pub mod PairLaws
pub mod SearchLaws
pub mod StoryLaws
