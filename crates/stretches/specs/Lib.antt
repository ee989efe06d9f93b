-- Believed: what a candidate is, what is taken, what is written and listed. The contracts above rest on these.
pub mod Candidates
pub mod Output
pub mod Account
pub mod Buffers
-- Believed too, and compared with those by theorems: source document 001 line by line, and the sentences of document 01.
pub mod Paper
pub mod Sentences
-- The readings before a request of document 02, for the theorems that say what stays.
pub mod Before
-- Two races on one tape, for theorems.
pub mod Races
-- For the contracts of inner functions, and for the crates above: each is proved of what the believed files say.
pub mod Lists
pub mod Ready
pub mod Position
-- Examples: the books and tapes worked by hand, a tape for the deciding rules, one for the origins of longer words, those with words put in,
-- and two races on one tape.
pub mod Books
pub mod Table
pub mod Rivals
pub mod Times
pub mod Insertions
pub mod Markers
