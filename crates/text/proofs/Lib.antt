-- Laws of the decimal digits of a number, and of where lines end.
pub mod Decimal
pub mod LineEnd
