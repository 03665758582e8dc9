-- Laws of decimal text, of the sign, of a result's text and of what is written; and the proofs of the claims of specs/.
pub mod Reading
pub mod Sign
pub mod Text
pub mod WholeCase
pub mod Written
