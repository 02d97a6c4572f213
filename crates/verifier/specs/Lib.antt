-- A table keeps its rules exactly when each of its regions does by itself (Checked): what is read at a place, written again, is what stands
-- there (Written); regions that are a program's have its bytes (Same), and the other way round (Split).
-- The code's tests ask for just that (Verdict). Of cells: what a kind asks (Asked), the tests of a cell in any class of kinds
-- (CellTests, with each class computed: Classes), items (Items), elements (Elements), the roles of a pattern (Roles). Of rows: Tests, each field
-- (Rows), the right cell with what it holds (Rights), the whole row (Statements), all steps (Walk). Turns: what the code's loops do.
-- Conjunctions: tests that hold together hold each.
pub mod Asked
pub mod CellTests
pub mod Checked
pub mod Classes
pub mod Conjunctions
pub mod Elements
pub mod Items
pub mod Rights
pub mod Roles
pub mod Rows
pub mod Same
pub mod Split
pub mod Statements
pub mod Tests
pub mod Turns
pub mod Verdict
pub mod Walk
pub mod Written
