-- The claims of specs/ and the laws behind them.
pub mod Number
pub mod Zeros
pub mod Pattern
pub mod Entries
