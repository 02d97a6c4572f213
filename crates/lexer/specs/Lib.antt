-- What the lexer answers, and how it stands for the definitions of document 01: counts of bytes (Places), constants
-- (Constants), kinds of statements (Kinds), what callers learn from the answers (Laws), and how bytes are counted (Runs).
pub mod Constants
pub mod Kinds
pub mod Laws
pub mod Places
pub mod Runs
