-- Document 02, #107: archived schedules. A block, the packing of a text into blocks, what each entry answers, what is claimed of them.
pub mod Block
pub mod Packing
pub mod Entry
pub mod Claims
pub mod Figures
pub mod Stream
pub mod Unpacking
