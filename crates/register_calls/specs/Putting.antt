-- What the code says of lines put, stored and written out. Assumes nothing.
use Rattle.std.specs.Prelude.{true, false, List, ◌++◌, map, ◌≡◌, ℕ, ◌≤◌, length, take, drop}
use Rattle.std.specs.Borrow.{Bor}
use Rattle.std.specs.Prelude.{Some, Result, Ok, Err}
use Rattle.base.specs.Lists.{all}
use Rattle.register.specs.Buffer.{register_in, slot_size}
use Rattle.register.specs.Calls.{buffer_open, with_register}
use Rattle.register.specs.Line.{has_form, with_currency}
use Rattle.register.specs.Register.{Lines, Register, line_at, most_lines, offer_number}
use Rattle.register.specs.Refusals.{number_of}
use Rattle.register.specs.declared.Refusal.{Refusal}
use Rattle.register.specs.declared.Refusal.TheVariants.{BadBuffer}
use Rattle.register_lines.specs.declared.Fields.{Fields}
use Rattle.register_lines.specs.declared.Fields.TheVariants.{Four, Five}
use Rattle.register_lines.specs.Fields.{field_count}
use Rattle.register_lines.specs.declared.Form.{Form}
use Rattle.register_reading.specs.Reading.{keys_of}

-- lines with their keys
pub record Keyed (held : Lines) (keys : List ℕ) : Type 0 where
  pub good : all has_form held ≡ true
  pub few : length held ≤ most_lines
  pub keyed : keys ≡ keys_of held

-- the number for a line offered, whatever lines have these keys; and the fields of one that is taken
pub record OfferJudged (line keys : List ℕ) (r : Result Form Refusal) : Type 0 where
  pub judged : (held : Lines) → Keyed held keys → number_of r ≡ offer_number held line
  pub counted : (form : Form) → r ≡ Ok form → field_count line ≡ Some form.fields

-- a line of so many fields as it is stored: one of four with a comma and the house currency behind it
unfoldable pub stored_by : Fields → (house line : List ℕ) → List ℕ
stored_by Four house line = with_currency house line
stored_by Five house line = line

-- a register with a currency written behind its first k lines, and a buffer that has come so far
abbrev pub written_to : (buffer currency : List ℕ) (k : ℕ) → Register
written_to buffer currency k =
    record {
      house = (register_in buffer).house;
      lines = map (with_currency currency) (take k (register_in buffer).lines) ++ drop k
          (register_in buffer).lines;
    }

pub record WrittenTo (buffer currency : List ℕ) (k : ℕ) (so_far : List ℕ) : Type 0 where
  pub is : so_far ≡ with_register buffer (written_to buffer currency k)
  pub size : length so_far ≡ length buffer

-- a currency was written behind each line of a register
pub record WrittenOut (buffer currency left : List ℕ) : Type 0 where
  pub is : left ≡ with_register buffer (record { house = (register_in buffer).house; lines = map (with_currency currency) (register_in buffer).lines })

-- the line of a place in an opened register, an empty one where none stands; any other buffer is refused
unfoldable pub LineHolds : (buffer : List ℕ) (place : ℕ) → Result (Bor (List ℕ)) Refusal → Type 0
LineHolds buffer place (Ok line) = (line.now ≡ line_at (register_in buffer).lines place) × (length line.now ≤ slot_size) × (buffer_open buffer ≡ true)
LineHolds buffer place (Err refusal) = (refusal ≡ BadBuffer) × (buffer_open buffer ≡ false)

pub record LineHeld (buffer : List ℕ) (place : ℕ) (r : Result (Bor (List ℕ)) Refusal) : Type 0 where
  pub finds : LineHolds buffer place r
