-- A line, the text, and what IMPORT answers and leaves.
pub mod Fields
pub mod Line
pub mod Reading
pub mod Text
-- What inner functions hand on.
pub mod Numbers
pub mod Results
pub mod Survey
pub mod Planned
-- What theorems speak of besides.
pub mod Words
pub mod Placed
-- Worked rows.
pub mod Examples
