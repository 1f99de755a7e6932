-- The eight numbers of an answer.
pub mod Numbers
