-- Laws of `overwrite`, for whoever writes to a lent buffer.
pub mod Overwrite
