-- The storey wall of document 01: one file for each of its headings and paragraphs, in its order; Span is document 02, #101; Height has #102 and Load #103.
pub mod Record
pub mod Range
pub mod Kinds
pub mod Span
pub mod BucklingLength
pub mod Resistance
pub mod Load
pub mod Height
pub mod Limits
pub mod Check
pub mod Claims
pub mod Comparison
