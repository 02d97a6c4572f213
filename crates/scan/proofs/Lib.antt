-- The proofs of the scan, and the laws they share: rows as arrays and as bytes (Chunks), rows and single tests (Rows), groups and their places (Slides), answers (Answers), and the code's
-- cases (Tests), the run (Running), and the call (Calls).
pub mod Answers
pub mod Calls
pub mod Chunks
pub mod Rows
pub mod Running
pub mod Slides
pub mod Tests
