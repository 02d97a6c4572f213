-- The register in the first 8,192 bytes of a buffer: a header of 1,024 bytes with the house currency, and a slot of 28 bytes for each of 256 lines.
-- Header and slots have their text, then zeros; a slot without a line is all zeros, and so is the header of a register that isn't opened. W2.6 "such
-- a buffer's layout is the team's, with written rules". The same in words: docs/REGISTER.md. Assumes nothing.
use Rattle.std.specs.Prelude.{Bool, true, false, ◌&&◌, List, [], ◌∷◌, ◌++◌, ℕ, zero, suc, ◌*◌, ◌-◌, leb, length, take, drop, get_or, replicate}
use Rattle.base.specs.Lists.{all, is_zero}
use Rattle.register.specs.Register.{Lines, Register, most_lines, differ, held_form, is_house}

-- W2.5 "in the first 8,192 bytes of a lent buffer"
abbrev pub register_size : ℕ
register_size = 8192

abbrev pub header_size : ℕ
header_size = 1024

abbrev pub slot_size : ℕ
slot_size = 28

-- Writing: text with zeros behind it, the slots of lines one behind the other, and the register's bytes.
unfoldable pub cell_of : (size : ℕ) (text : List ℕ) → List ℕ
cell_of size text = text ++ replicate (size - length text) 0

unfoldable pub slots_of : Lines → List ℕ
slots_of [] = []
slots_of (line ∷ lines) = cell_of slot_size line ++ slots_of lines

unfoldable pub register_image : Register → List ℕ
register_image register =
    cell_of header_size register.house
    ++ (slots_of register.lines ++ replicate (slot_size * (most_lines - length register.lines)) 0)

-- Reading: the text is the bytes up to the first zero; the lines in so many slots are those up to the first slot that begins with zero.
unfoldable pub text_in : (cell : List ℕ) → List ℕ
text_in [] = []
text_in (b ∷ bs) = elim (is_zero b) [ true ↦ [] | false ↦ b ∷ text_in bs ]

unfoldable pub lines_in : (count : ℕ) (slots : List ℕ) → Lines
lines_in zero slots = []
lines_in (suc n) slots =
    elim (is_zero (get_or slots 0 0)) [ true ↦ [] | false ↦ text_in (take slot_size slots) ∷ lines_in n (drop slot_size slots) ]

abbrev pub header_in : (buffer : List ℕ) → List ℕ
header_in buffer = take header_size buffer

abbrev pub slots_in : (buffer : List ℕ) → List ℕ
slots_in buffer = take (slot_size * most_lines) (drop header_size buffer)

unfoldable pub register_in : (buffer : List ℕ) → Register
register_in buffer = record { house = text_in (header_in buffer); lines = lines_in most_lines (slots_in buffer) }

-- The rules. A cell keeps its rule when its text has the form and zeros stand behind it. 1: the header's text is a house currency, or none. 2: that
-- of a slot that doesn't begin with zero is a line of four fields if the header has no currency, of five if it has one.
unfoldable pub slot_cell_keeps : (form : List ℕ → Bool) (cell : List ℕ) → Bool
slot_cell_keeps form cell = form (text_in cell) && all is_zero (drop (length (text_in cell)) cell)

-- 3: from the first slot that begins with zero on, all is zero
unfoldable pub slots_keep : (form : List ℕ → Bool) (count : ℕ) (slots : List ℕ) → Bool
slots_keep form zero slots = true
slots_keep form (suc n) slots =
    elim (is_zero (get_or slots 0 0)) [
      | true ↦ all is_zero slots
      | false ↦ slot_cell_keeps form (take slot_size slots) && slots_keep form n (drop slot_size slots)
    ]

-- 4: no two lines have the same contract
unfoldable pub register_keeps_rules : (buffer : List ℕ) → Bool
register_keeps_rules buffer =
    slot_cell_keeps is_house (header_in buffer)
    && (slots_keep (held_form (text_in (header_in buffer))) most_lines (slots_in buffer) && differ (register_in buffer).lines)

-- W2.7 not "14 for a buffer under 8,192 bytes or against its written rules"
unfoldable pub buffer_keeps : (buffer : List ℕ) → Bool
buffer_keeps buffer = leb register_size (length buffer) && register_keeps_rules buffer
