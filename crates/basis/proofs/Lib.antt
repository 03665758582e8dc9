-- Laws of the definitions, one file for each file of specs/; of tests and choices; and of a list's elements.
pub mod Check
pub mod Choice
pub mod Fraction
pub mod Listed
pub mod Load
pub mod Range
pub mod FirstRefusal
pub mod Result
