-- Numbers, quoted texts and lines as bytes.
pub mod Decimal
pub mod Quoted
pub mod LineEnd
