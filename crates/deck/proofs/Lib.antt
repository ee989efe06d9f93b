-- That contracts determine results.
pub mod One
