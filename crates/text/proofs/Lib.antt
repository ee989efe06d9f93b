-- The laws of putting.
pub mod Putting
-- That contracts determine results.
pub mod One
