pub mod NumbersOfAnswers
pub mod NumbersOfCalls
