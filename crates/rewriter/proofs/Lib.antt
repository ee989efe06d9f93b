-- Laws of what comes before the passes: the refusals, the backward pass, and that everything is then ready.
pub mod Early
pub mod Backwards
pub mod MakeReady
-- REWRITE and ACCOUNT as wholes, and as results; and SHOW.
pub mod Whole
pub mod Showing
pub mod ShownAfter
pub mod Standing
pub mod TimesAfter
-- Accepted calls; two races on one tape.
pub mod Accepted
pub mod Races
-- What the crates above may rely on, and the theorems on one page.
pub mod Callers
pub mod One
pub mod Claims
