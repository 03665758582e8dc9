-- Laws of the definitions, one file for each file of specs/.
pub mod Record
pub mod Range
pub mod Span
pub mod BucklingLength
pub mod Resistance
pub mod Load
pub mod Height
pub mod Check
pub mod Claims
pub mod Comparison
