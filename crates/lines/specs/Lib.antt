-- The lines of an input and the output for them, what is answered of the bytes at hand, and that the answers make up the output.
pub mod Output
pub mod Answer
pub mod Claims
pub mod WholeCase
