-- Laws of the definitions, one file for each file of specs/, and of a record with a greater strength.
pub mod Range
pub mod RequiredLoad
pub mod Resistance
pub mod Load
pub mod Limits
pub mod Claims
pub mod Comparison
pub mod Strength
