-- Believed: what one tape gives after a build.
pub mod Tape
-- The operation's answer, of what the passes answer.
pub mod Results
-- For the contracts of inner functions: how much a tape can give, and what is written into both outputs.
pub mod Passes
