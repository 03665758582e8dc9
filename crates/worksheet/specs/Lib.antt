-- A worksheet row: the number of a cell, the record of a row, and the row of a cell for each number.
pub mod Cell
pub mod Entry
pub mod Row
pub mod Cells
