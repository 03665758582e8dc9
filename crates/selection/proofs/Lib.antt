-- Laws of the definitions, and the proofs of what is claimed.
pub mod Blocks
pub mod Places
pub mod BestSoFar
pub mod Refusals
pub mod Strength
pub mod Claims
pub mod Figures
