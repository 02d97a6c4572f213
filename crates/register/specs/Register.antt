-- Document 02, wishes 2 and 10: the register as its house currency and its lines, what opening and offering answer and leave, and what is handed
-- out. Assumes nothing.
use Rattle.std.specs.Prelude.{Bool, true, cond, not, ◌&&◌, ◌||◌, List, [], ◌∷◌, ◌++◌, map, ℕ, eqb, leb, length, get_or}
use Rattle.base.specs.Lists.{all, any, same, is_nil}
use Rattle.register.specs.Line.{contract_of, has_form, is_currency, is_line, is_record, stored, with_currency}

-- W2.5 "Lines are kept in order of arrival": the first that came first
abbrev pub Lines : Type 0
Lines = List (List ℕ)

-- W10.3 the house currency that the register was told on opening, none until then; and its lines
pub record Register : Type 0 where
  pub house : List ℕ
  pub lines : Lines

-- W10.6 "until it is opened"
unfoldable pub is_open : Register → Bool
is_open register = not (is_nil register.house)

-- the empty register, not opened
abbrev pub empty_register : Register
empty_register = record { house = []; lines = [] }

-- W2.7 "256 lines are held"
abbrev pub most_lines : ℕ
most_lines = 256

-- W2.7 "its contract is held already"
unfoldable pub is_held : Lines → (contract : List ℕ) → Bool
is_held lines contract = any (λ line. same (contract_of line) contract) lines

-- W2.7 "25 when a line breaks its form, 26 when its contract is held already, 27 when 256 lines are held": the lowest that applies, else 0
unfoldable pub lowest_of : (formed held full : Bool) → ℕ
lowest_of formed held full = cond (not formed) 25 (cond held 26 (cond full 27 0))

-- the number for a line offered
unfoldable pub offer_number : Lines → (line : List ℕ) → ℕ
offer_number lines line = lowest_of (has_form line) (is_held lines (contract_of line)) (leb most_lines (length lines))

-- a register with a line behind the others, W10.3 with its currency
abbrev pub with_line : Register → (line : List ℕ) → Register
with_line register line = record { house = register.house; lines = register.lines ++ (stored register.house line ∷ []) }

-- Of an opened register (`register_after` and Calls: buffer_open see to that): W2.5 a line that is taken stands behind all others, W10.3 with its
-- currency; W2.6 "a call turned down leaves it unchanged"
unfoldable pub offered : Register → (line : List ℕ) → Register
offered register line = cond (eqb (offer_number register.lines line) 0) (with_line register line) register

-- W2.5 and W2.7 as they were before this wish: a line of four fields that was taken stood behind all others as it came. So the lines of a register
-- that isn't opened came about (RegisterLaws: old-is, is-old).
unfoldable pub old_offered : Lines → (line : List ℕ) → Lines
old_offered lines line =
    cond (eqb (lowest_of (is_line line) (is_held lines (contract_of line)) (leb most_lines (length lines))) 0) (lines ++ (line ∷ [])) lines

unfoldable pub old_lines : Lines → (offers : List (List ℕ)) → Lines
old_lines lines [] = lines
old_lines lines (line ∷ rest) = old_lines (old_offered lines line) rest

-- W10.3 "On opening, the register is told the house currency", "a held register of old lines is rewritten so, with order and other fields kept;
-- opening again changes only the house currency"
unfoldable pub opened_with : Register → (currency : List ℕ) → Register
opened_with register currency =
    record { house = currency; lines = cond (is_open register) register.lines (map (with_currency currency) register.lines) }

-- what is done to a register, and what it is then: W10.6 an opening with what isn't a currency is turned down, and so is an offer before the
-- register is opened
pub data Act : Type 0 where
  opening : (currency : List ℕ) → Act
  offering : (line : List ℕ) → Act

unfoldable pub register_after : Register → Act → Register
register_after register (opening currency) = cond (is_currency currency) (opened_with register currency) register
register_after register (offering line) = cond (is_open register) (offered register line) register

unfoldable pub fold : Register → (acts : List Act) → Register
fold register [] = register
fold register (act ∷ acts) = fold (register_after register act) acts

-- W2.5 "the register hands out any line by its place from 0", "an empty one where none stands"; W10.5 "Handing out gives five fields, which replaces
-- the byte-for-byte wish for lines of four"
unfoldable pub line_at : Lines → (place : ℕ) → List ℕ
line_at lines place = get_or lines place []

-- no two lines have the same contract
unfoldable pub differ : Lines → Bool
differ [] = true
differ (line ∷ lines) = not (is_held lines (contract_of line)) && differ lines

-- The form of the lines held: four fields in a register that isn't opened, as wishes 2 and 4 left it; five in one that is.
unfoldable pub held_form : (house : List ℕ) → (line : List ℕ) → Bool
held_form house line = cond (is_nil house) (is_line line) (is_record line)

-- a house currency, or none yet
unfoldable pub is_house : List ℕ → Bool
is_house house = is_nil house || is_currency house

-- The registers: up to 256 lines of this form with different contracts, and a house currency or none yet.
unfoldable pub is_register : Register → Bool
is_register register =
    is_house register.house
    && (leb (length register.lines) most_lines && (all (held_form register.house) register.lines && differ register.lines))
