-- The scan's code: patterns as rows of numbers (Rows) and what each function says (Steps).
pub mod Rows
pub mod Steps
