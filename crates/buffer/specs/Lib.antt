-- What a lent buffer holds after a text is put over a part of it.
pub mod Overwrite
