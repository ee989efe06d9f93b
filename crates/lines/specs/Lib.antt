-- Believed: what the passes of the account answer and leave in it.
pub mod Listing
-- For the contracts of inner functions: each is proved of what the believed files say.
pub mod Results
pub mod Ends
pub mod Coming
pub mod Lines
