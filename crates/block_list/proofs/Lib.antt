-- Laws of the definitions, and the proofs of what is claimed.
pub mod Number
pub mod Lines
pub mod Choosing
pub mod Keeping
pub mod Claims
pub mod Figures
