-- A record and a list of blocks as text, for the program `choose`: how it is read, what is chosen, and what of a long input is kept.
pub mod Reading
pub mod Choice
pub mod Keeping
pub mod Claims
pub mod Figures
