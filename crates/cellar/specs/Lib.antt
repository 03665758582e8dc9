-- The cellar wall of document 01: one file for each paragraph, in its order; Limits has document 02, #105.
pub mod Record
pub mod Range
pub mod RequiredLoad
pub mod Resistance
pub mod Load
pub mod Limits
pub mod Check
pub mod Claims
pub mod Comparison
