-- Laws of the definitions, one file for each file of specs/.
pub mod MinimumLoad
pub mod Check
pub mod Comparison
pub mod Figures
