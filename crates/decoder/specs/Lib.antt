-- What the code's enums stand for (Meaning), what is read from a table's bytes (Reading, with laws of cells in ReadingLaws), and what a
-- table that keeps the rules lets callers rely on (Holds; Kept, by way of HoldsLaws and Regions).
pub mod Holds
pub mod HoldsLaws
pub mod Kept
pub mod Meaning
pub mod Reading
pub mod ReadingLaws
pub mod Regions
