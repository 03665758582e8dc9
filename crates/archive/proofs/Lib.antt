-- Laws along the lines of a text (Lines, Packing) and along its blocks (Counting, Settled, Placed, Storing); of one block (BlockParts);
-- of the bytes at hand (Held, Unpacking); the claims (Claims, BlockClaims, WrittenClaims, Stream) and the figures.
pub mod Lines
pub mod Packing
pub mod Counting
pub mod Settled
pub mod Placed
pub mod Storing
pub mod Claims
pub mod BlockParts
pub mod BlockClaims
pub mod WrittenClaims
pub mod Held
pub mod Stream
pub mod Unpacking
pub mod Figures
