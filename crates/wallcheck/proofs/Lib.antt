-- Laws of the entries, demands 1 to 3, #104, #106, #109 and #110.
pub mod Entry
pub mod Demands
pub mod StoreyRecord
pub mod MinimumLoad
pub mod EarlyDesign
pub mod BlockChoice
