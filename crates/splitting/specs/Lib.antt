pub mod Score
pub mod Splitting
pub mod Answer
pub mod Minimum
pub mod Rest
pub mod Laws
pub mod AnswerLaws
pub mod Examples
