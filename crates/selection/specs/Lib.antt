-- Document 02, #110: a list of blocks, the choice among them and its count, and what is claimed.
pub mod Blocks
pub mod Choice
pub mod Claims
pub mod Figures
