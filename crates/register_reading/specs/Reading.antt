-- What the code says of a register in a buffer: the contracts of its lines as keys, and what reading it found. Assumes nothing.
use Rattle.std.specs.Prelude.{Bool, true, false, cond, not, ◌&&◌, List, [], ◌∷◌, ◌++◌, map, ◌≡◌, ℕ, ◌+◌, ◌*◌, ◌-◌, ◌%◌, ◌≤◌, ◌<◌, length, drop, get_or}
use Rattle.std.specs.Prelude.{Option, Some, None, Result, Ok, Err}
use Rattle.base.specs.Lists.{all, among, is_nil, is_zero}
use Rattle.card_reader.specs.Keys.{key_of}
use Rattle.register.specs.Buffer.{header_size, slot_size, text_in, lines_in, register_in, slot_cell_keeps, slots_keep, buffer_keeps}
use Rattle.register.specs.Calls.{buffer_open}
use Rattle.register.specs.Line.{contract_of}
use Rattle.register.specs.declared.Refusal.{Refusal}
use Rattle.register.specs.declared.Refusal.TheVariants.{BadBuffer}
use Rattle.register.specs.Register.{Lines, most_lines, differ, is_house, is_open}
use Rattle.register_lines.specs.declared.Fields.{Fields}
use Rattle.register_lines.specs.declared.Fields.TheVariants.{Four, Five}
use Rattle.register_lines.specs.Fields.{field_count, is_count}

-- the contracts of lines, each as one number
unfoldable pub key_in : (line : List ℕ) → ℕ
key_in line = key_of (contract_of line)

abbrev pub keys_of : Lines → List ℕ
keys_of held = map key_in held

-- n bytes stand before the zeros at the end of a slot
pub record Trimmed (slot : List ℕ) (n : ℕ) : Type 0 where
  pub inside : n ≤ length slot
  pub zeros : all is_zero (drop n slot) ≡ true
  pub last : 0 < n → is_zero (get_or slot (n - 1) 0) ≡ false

-- a line has so many fields, each with its form
unfoldable pub has_fields : (fields : Fields) (line : List ℕ) → Bool
has_fields fields line = is_count fields (field_count line)

-- the key of the line in a slot, which should have so many fields; none where the slot breaks its rule
unfoldable pub slot_key : (fields : Fields) (slot : List ℕ) → Option ℕ
slot_key fields slot = cond (slot_cell_keeps (has_fields fields) slot) (Some (key_in (text_in slot))) None

-- how many marks there are; a key is marked at its place among them
abbrev pub mark_count : ℕ
mark_count = 4093

-- The keys are marked. So a key whose place has no mark is none of them.
pub record Marked (keys : List ℕ) (marks : List Bool) : Type 0 where
  pub size : length marks ≡ mark_count
  pub each : (key : ℕ) → among key keys ≡ true → get_or marks (key % mark_count) false ≡ true

-- a key noted behind others, unless it is one of them
pub record KeyNoted (keys : List ℕ) (key : ℕ) (r : Bool) (keys' : List ℕ) (marks' : List Bool) : Type 0 where
  pub new : r ≡ not (among key keys)
  pub kept : r ≡ true → keys' ≡ keys ++ key ∷ []
  pub marked : r ≡ true → Marked keys' marks'

-- the rules of the slots: 2, 3 and 4
unfoldable pub slots_hold : (fields : Fields) (slots : List ℕ) → Bool
slots_hold fields slots = slots_keep (has_fields fields) most_lines slots && differ (lines_in most_lines slots)

-- whether slots keep the rules, and then the keys of their lines
pub record SlotsHold (keeps : Bool) (held : Lines) (keys : List ℕ) (r : Bool) : Type 0 where
  pub told : r ≡ keeps
  pub keyed : r ≡ true → keys ≡ keys_of held

-- how many fields lines have in a register with this house currency; and under this header, none where it breaks its rule
unfoldable pub fields_of : (house : List ℕ) → Fields
fields_of house = cond (is_nil house) Four Five

unfoldable pub header_fields : (header : List ℕ) → Option Fields
header_fields header = cond (slot_cell_keeps is_house header) (Some (fields_of (text_in header))) None

-- a register with how many fields its lines have, and their keys
pub record RegisterKeyed (buffer : List ℕ) (fields : Fields) (keys : List ℕ) : Type 0 where
  pub keeps : buffer_keeps buffer ≡ true
  pub form : fields ≡ fields_of (register_in buffer).house
  pub keyed : keys ≡ keys_of (register_in buffer).lines

-- a register that is opened, with the keys of its lines, and with their number; and one of so many lines that isn't opened
pub record RegisterReady (buffer keys : List ℕ) : Type 0 where
  pub keeps : buffer_keeps buffer ≡ true
  pub is_open_lem : is_open (register_in buffer) ≡ true
  pub keyed : keys ≡ keys_of (register_in buffer).lines

pub record LinesCounted (buffer : List ℕ) (n : ℕ) : Type 0 where
  pub keeps : buffer_keeps buffer ≡ true
  pub is_open_lem : is_open (register_in buffer) ≡ true
  pub count : n ≡ length (register_in buffer).lines

pub record Unopened (buffer : List ℕ) (n : ℕ) : Type 0 where
  pub keeps : buffer_keeps buffer ≡ true
  pub is_old : is_open (register_in buffer) ≡ false
  pub count : n ≡ length (register_in buffer).lines

-- what was read, of any register; and the keys of an opened one
unfoldable pub RegisterReads : (buffer keys : List ℕ) → Option Fields → Type 0
RegisterReads buffer keys (Some fields) = RegisterKeyed buffer fields keys
RegisterReads buffer keys None = buffer_keeps buffer ≡ false

pub record RegisterRead (buffer keys : List ℕ) (r : Option Fields) : Type 0 where
  pub finds : RegisterReads buffer keys r

unfoldable pub KeysReads : (buffer keys : List ℕ) → Result (Unit {0}) Refusal → Type 0
KeysReads buffer keys (Ok _) = RegisterReady buffer keys
KeysReads buffer keys (Err refusal) = (refusal ≡ BadBuffer) × (buffer_open buffer ≡ false)

pub record KeysRead (buffer keys : List ℕ) (r : Result (Unit {0}) Refusal) : Type 0 where
  pub finds : KeysReads buffer keys r

-- a buffer with a register that has a line at a place
pub record Placed (buffer : List ℕ) (place : ℕ) : Type 0 where
  pub keeps : buffer_keeps buffer ≡ true
  pub inside : place < length (register_in buffer).lines

-- where the slot of a place begins
abbrev pub slot_at : (place : ℕ) → ℕ
slot_at place = header_size + slot_size * place
