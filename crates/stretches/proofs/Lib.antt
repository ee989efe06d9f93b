-- Laws of lists and of tests: first and last that passes, lists made number by number, what is written into another.
pub mod Lists
pub mod First
pub mod Last
pub mod Greatest
pub mod Onto
pub mod Front
pub mod Words
-- Laws of any choice of candidates: the paper's sequence, document 01's sentence.
pub mod Greedy
pub mod Smallest
-- What the definitions mean: the stretches taken, the output and its origins, the account; compared with Paper and Sentences.
pub mod WordMarks
pub mod Walks
pub mod Stretches
pub mod Rewritings
pub mod Sorting
pub mod Accounts
pub mod Counts
pub mod Replaced
pub mod Lengths
pub mod Kept
pub mod Origins
pub mod Rising
pub mod Before
pub mod Agreeing
pub mod Batches
-- Two races on one tape.
pub mod Races
pub mod RacesJoin
-- Laws of the passes over a tape, position after position: that the sets find the candidates, and that what is found is what is taken.
pub mod CandidateSets
pub mod Meets
pub mod Pruned
pub mod Scans
pub mod Remembering
pub mod Lefts
pub mod Along
-- The contracts of the public functions determine what they give.
pub mod One
