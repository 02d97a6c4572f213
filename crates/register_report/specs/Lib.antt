-- The report as the code puts it together: currencies and columns as numbers (Codes), what a line adds, sums, and what was put (Sums); laws of codes
-- (CodeLaws), of a record's fields (FieldLaws), of sums and TOTAL lines (SumLaws), and of the whole (PutLaws).
pub mod CodeLaws
pub mod Codes
pub mod FieldLaws
pub mod PutLaws
pub mod SumLaws
pub mod Sums
