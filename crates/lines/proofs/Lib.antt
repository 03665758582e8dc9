-- Laws of the output (LongLine, Output), of what is answered and held (EndedLines), of the code's steps (Answering,
-- AnswerCall) and for callers (Bounds); of a search by halves (LineSearch); the claims.
pub mod LongLine
pub mod Output
pub mod EndedLines
pub mod Answering
pub mod AnswerCall
pub mod Bounds
pub mod Claims
pub mod WholeCase
pub mod LineSearch
