-- The text of an answer.
pub mod Text
