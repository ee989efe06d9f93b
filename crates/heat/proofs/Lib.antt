-- Laws of what comes before the lanes, of one lane and its room, and of the loop over the records.
pub mod Begins
pub mod Room
pub mod Places
pub mod Turns
-- The heat beside calls of REWRITE, beside a heat with one tape changed, and one lane of it.
pub mod Alone
pub mod Change
pub mod OneLane
-- The theorems on one page, and that the contract determines the result.
pub mod Claims
pub mod One
