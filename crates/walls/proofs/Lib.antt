-- Proofs of the claims of specs/.
pub mod Claims
pub mod Comparison
pub mod Computes
pub mod MarkedFigures
pub mod FalseReadings
pub mod TwoWayFloors
pub mod CalciumSilicate
pub mod SimplifiedLoad
pub mod FillAboveCeiling
pub mod RoundedLoad
pub mod OutOfRange
