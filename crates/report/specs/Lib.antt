-- A result, and three numbers, as text in a lent buffer: the text, what the writer leaves and returns, and the text read back.
pub mod Reading
pub mod Text
pub mod WholeCase
pub mod Written
