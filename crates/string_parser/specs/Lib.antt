-- What the parsers of string expressions and patterns do: STRING calls and fillers as cells (Cells), the elements read, their rows and
-- literal bytes written (Elements), with the laws by which parsers of cells (CellLaws) and of elements (ElementLaws) follow each other, and
-- those of literals, elements and whole rows (RowLaws).
pub mod CellLaws
pub mod Cells
pub mod ElementLaws
pub mod Elements
pub mod RowLaws
