-- What both kinds of wall share: fractions and their rounding, ranges, the load, a result, "the first refusal that applies", and the parts of a check.
pub mod Fraction
pub mod Load
pub mod Range
pub mod Refusal
pub mod Result
pub mod Check
