-- Believed: what CHECK answers and what a book says. Everything that is promised above rests on these.
pub mod Format
pub mod Reading
pub mod Language
pub mod StateSets
-- The reading before a request of document 02, for the theorems that say what stays.
pub mod Before
-- A symbol that a book does not use, for theorems.
pub mod Unused
-- For the contracts of inner functions, and for the crates above: each is proved of what the believed files say.
pub mod Refusals
pub mod Scanning
pub mod Records
pub mod Outline
pub mod Sound
pub mod Fronts
-- Examples: the house book, a refusal of each number.
pub mod House
pub mod Examples
pub mod Determined
