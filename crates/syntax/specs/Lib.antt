-- The language: what a program is (Program), how a form is parsed (Parsing), names and constants (Lexemes), numeric expressions (Numeric),
-- string expressions and patterns (Strings), kinds of statements (Keywords), their forms (Forms). Of these: kinds and purposes are told
-- apart (Laws), lists of which each element is so, and places below the counts of a program (Placed), a form is parsed alike with any places
-- (Alike), the parsers of numeric expressions have fuel enough (Fuel), where steps stand and their statements lead (Scopes), and that of
-- each form (ScopeForms).
pub mod Alike
pub mod Forms
pub mod Fuel
pub mod Keywords
pub mod Laws
pub mod Lexemes
pub mod Numeric
pub mod Parsing
pub mod Placed
pub mod Program
pub mod ScopeForms
pub mod Scopes
pub mod Strings
