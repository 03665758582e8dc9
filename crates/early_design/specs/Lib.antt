-- Document 02, #109: the records between two, the answer and its refusals, the two records that decide it, and what is claimed.
pub mod Between
pub mod Check
pub mod WorstAndBest
pub mod Claims
pub mod Figures
