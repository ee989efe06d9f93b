-- Laws of the marks that are written and of one position: what it adds, what it does to the outputs.
pub mod Marks
pub mod Positions
-- Laws of the whole tape: how much it can give, what the passes have counted, what the writing pass has written.
pub mod Limits
pub mod Measured
pub mod Forth
-- The two outcomes as the code answers.
pub mod Outcomes
-- What the crates above may rely on.
pub mod Tapes
pub mod Results
pub mod One
