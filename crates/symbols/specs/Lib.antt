-- What parsers leave behind while they parse a statement: names mentioned, in order of time (Entries, EntryLaws), rows of items and elements of
-- the table (Cells, Items, Elements); the symbol table: what it shows, by which places are looked up (Environment, EnvironmentLaws), and the
-- environment that it holds (Holding), list by list (From); how far counts go (Bounds); what the code does with them (Clauses); laws of readings
-- that parsers of all kinds cite (ParsingLaws).
pub mod Bounds
pub mod Cells
pub mod Clauses
pub mod Elements
pub mod Entries
pub mod EntryLaws
pub mod Environment
pub mod EnvironmentLaws
pub mod From
pub mod Holding
pub mod Items
pub mod ParsingLaws
