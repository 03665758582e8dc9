-- A line of bytes and the record that it stands for: the lines of the form (Grammar), which byte of a line is wrong (Beginning), how lines
-- are read (Automaton, Kind, Cursor, Reading), that this agrees with both (Claims), and examples of documents 01 and 02 (Worked).
pub mod Grammar
pub mod Beginning
pub mod Automaton
pub mod Kind
pub mod Cursor
pub mod Reading
pub mod Claims
pub mod Worked
