-- Laws of the two passes: the ends of a start, the candidates counted, the lines written; then what the account of a tape is, and what it leaves.
pub mod Onward
pub mod Tallies
pub mod Written
pub mod Listings
pub mod Results
-- The contract of the public function determines what it gives.
pub mod One
