-- Laws of the step: arc by arc in either direction, rule by rule, record by record, on all symbols; and that it gives the sets of the definitions.
pub mod Folds
pub mod Ends
pub mod Masks
pub mod Sweep
pub mod Making
pub mod Rows
pub mod Closing
-- Laws of the numbering: of a number, of a turn, of the table as it stands in the slices; and that it counts the sets over all tapes.
pub mod Pad
pub mod Turns
pub mod Finding
pub mod At
pub mod Counting
-- Laws of the workspace: its parts, BUILD's ways out, what a reader of it may rely on.
pub mod Parts
pub mod WaysOut
pub mod Results
pub mod Tables
-- BUILD with fewer symbols: the numbering with shorter rows, and the workspace.
pub mod Widths
pub mod Before
-- What the sets hold: runs of any machine, a book as a machine, the sets along a tape in document 01's words.
pub mod Runs
pub mod Bridge
pub mod Slices
pub mod Steps
pub mod Meaning
-- What BUILD's answer says of the book, and that contracts determine results.
pub mod Claims
pub mod One
