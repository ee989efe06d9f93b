-- Believed: the sets and their numbers, and what BUILD answers and leaves; what the numbering means over all tapes.
pub mod Sets
pub mod Numbering
pub mod Workspace
pub mod Counting
-- The same answer of a result that is an enum.
pub mod Results
-- BUILD before a request of document 02, for the theorem that says what stays.
pub mod Before
-- For the crates above: what a reader of a built workspace may rely on, and the pruned walk; each is proved of what the believed files say.
pub mod Tables
pub mod Focus
-- For the contracts of inner functions: how the code steps a set, and what the builder's parts are lent and leave.
pub mod Stepping
pub mod Making
pub mod Sides
-- Examples: the house book, built.
pub mod Examples
