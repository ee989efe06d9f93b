-- That the contract determines its result.
pub mod One
