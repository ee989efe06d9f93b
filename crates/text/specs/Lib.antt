-- For the contracts: a text and what is put into it.
pub mod Text
