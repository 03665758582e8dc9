-- A record of either kind: its check, demand 2, the comparison of records, the marked figures, and the readings that are false.
pub mod Check
pub mod Claims
pub mod Comparison
pub mod Examples
pub mod MarkedFigures
pub mod FalseReadings
pub mod TwoWayFloors
pub mod CalciumSilicate
pub mod SimplifiedLoad
pub mod FillAboveCeiling
pub mod RoundedLoad
pub mod OutOfRange
