-- Document 02, #106: the minimum load in the top storey, its check, what is claimed of it, its figures.
pub mod MinimumLoad
pub mod Check
pub mod Claims
pub mod Comparison
pub mod Figures
