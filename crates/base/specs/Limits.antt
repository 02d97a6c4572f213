-- The counts and lengths that document 01 fixes for every edition, named here once. Named elsewhere: what an edition fixes (Edition); the columns
-- of a card (cards/Cards) and the 8 bytes of a name (syntax/Lexemes: name_length); the sizes of a cell and of the store (encoding/Buffers); what the
-- program keeps, lends and runs (calls/Strigol). The team's own are those of its layouts (encoding/Table, encoding/Buffers, scanning/Call) and the
-- numbers that may wait in an expression (encoding/Rules: most_waiting). Assumes nothing.
use Rattle.std.specs.Prelude.{ℕ}

-- Q10 "256 statements, 32 strings, 32 numbers, 64 labels or 16 routines declared"
abbrev pub statements : ℕ
statements = 256

abbrev pub strings : ℕ
strings = 32

abbrev pub numbers : ℕ
numbers = 32

abbrev pub labels : ℕ
labels = 64

abbrev pub routines : ℕ
routines = 16

-- Q10 "20 elements in an expression", Q23 "The pattern has over 20 elements."
abbrev pub row_elements : ℕ
row_elements = 20

-- Q10 "1,024 elements, 1,024 operands and `+ - * /` in numeric expressions, or 4,096 literal bytes"
abbrev pub elements : ℕ
elements = 1024

abbrev pub items : ℕ
items = 1024

abbrev pub literals : ℕ
literals = 4096

-- V1 "strings hold 0 to 1,024 bytes", Q22 "the reference exceeds 1,024 bytes"
abbrev pub string_bytes : ℕ
string_bytes = 1024

-- S13 "an expression in parentheses, at most 16 deep"
abbrev pub parentheses : ℕ
parentheses = 16

-- Q15 "EXECUTE with 16 held"
abbrev pub returns : ℕ
returns = 16

-- Q1 "The deck exceeds 32,768 bytes"
abbrev pub longest_deck : ℕ
longest_deck = 32_768

-- Q3 "a line exceeds 80"
abbrev pub line_bytes : ℕ
line_bytes = 80
