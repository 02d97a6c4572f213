-- Table, store and state as bytes and numbers: numbers as bytes (Numerals), the kinds of a table's cells and rows (Kinds), a program as a table
-- (Table) and back (TableReading), the code's cells and rows as the table's (Meaning), when a program is in range (Rules), store and state
-- (Buffers) with their laws (BufferLaws, over Splices).
-- Laws: kinds are one to one with what they spell (KindLaws); what the rules tell of a statement's parts (RuleLaws); numbers (NumeralLaws),
-- cells (CellLaws), rows (RowLaws) and programs (TableLaws) are read back from their bytes (ByteLaws); rows one behind the other (ReadingLaws)
-- and their literal bytes (TableLiterals); what a program in range lets a run rely on (ProgramLaws); what an edition must keep (Conditions).
pub mod BufferLaws
pub mod Buffers
pub mod ByteLaws
pub mod CellLaws
pub mod Conditions
pub mod KindLaws
pub mod Kinds
pub mod Meaning
pub mod NumeralLaws
pub mod Numerals
pub mod ProgramLaws
pub mod ReadingLaws
pub mod RowLaws
pub mod RuleLaws
pub mod Rules
pub mod Splices
pub mod Table
pub mod TableLaws
pub mod TableLiterals
pub mod TableReading
