-- Believed: what REWRITE and ACCOUNT answer and leave in every buffer, and what SHOW hands back.
pub mod Replies
pub mod Show
-- For the contracts of inner functions: what is handed on before the forward passes.
pub mod Opening
-- Two races on one tape, for theorems.
pub mod Races
