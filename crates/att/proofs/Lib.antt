-- Laws of a line: its fields, their numbers, what is read of it.
pub mod Results
pub mod Parting
pub mod Rows
pub mod Good
pub mod Symbols
-- Laws of the states' numbers, of the passes over the text, of what is written.
pub mod Names
pub mod Surveying
pub mod Filling
pub mod Appearing
pub mod Flags
-- Laws of the answer.
pub mod Answers
pub mod Taking
pub mod Planning
pub mod Putting
-- The words, and the part in a book.
pub mod Words
pub mod Passing
pub mod Keeping
pub mod Joining
-- The theorems on one page, and that the contract determines the result.
pub mod Claims
pub mod One
