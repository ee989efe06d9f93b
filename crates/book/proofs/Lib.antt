-- Laws of sets as numbers, of tests, contexts, padded lists and numbers by first appearance.
pub mod Bits
pub mod Tests
pub mod Contexts
pub mod Arcs
pub mod Pad
pub mod Idx
pub mod Some
-- Laws of a record and of the loop of `check`.
pub mod Laws
pub mod Passed
pub mod Agree
pub mod Progress
-- Laws of an accepted book: that it is sound, the walk over its records, the outline that is taken of it.
pub mod Accepted
pub mod Retired
pub mod Sound
pub mod Walk
pub mod Stepping
pub mod Fronts
pub mod Grown
pub mod Records
pub mod Placing
pub mod Masking
pub mod Outlining
-- A symbol that the book does not use.
pub mod Unused
-- CHECK with fewer symbols.
pub mod Before
-- What the crates above may rely on.
pub mod Refusals
pub mod Claims
pub mod OneMasks
pub mod One
