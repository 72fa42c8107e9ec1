pub mod Ready
pub mod RushAnswers
