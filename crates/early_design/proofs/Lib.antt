-- Laws of the definitions, one file for each file of specs/.
pub mod Between
pub mod Check
pub mod WorstAndBest
pub mod Claims
pub mod Figures
