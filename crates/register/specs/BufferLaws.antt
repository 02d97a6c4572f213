-- The register as bytes and back: the image of a register keeps the rules and is read as that register; a buffer that keeps them is the image of
-- the register that is read. Assumes nothing.
use Rattle.std.specs.Prelude.{Bool, ◌&&◌, ◌≡◌, leb, drop, get_or}
use Rattle.std.proofs.Math.Bool.{true, false}
use mathlib.Core.List.{List, [], ◌∷◌, ◌++◌, append_assoc}
use Rattle.std.proofs.Math.Path.{refl, sym, ap, ap₂}
use Rattle.std.proofs.Common.{◌∙◌, subst, take-add}
use Prim.Native.Nat.{ℕ, zero, suc, ◌*◌, ◌-◌, ◌≤◌}
use native.Mathlib.Omega.{arith}
use Rattle.std.proofs.Math.ListN.{length, take, replicate, length-append, length-drop, take-append-drop}
use Rattle.std.proofs.lemmas.List.{length-replicate}
use Rattle.std.proofs.Math.Seq.{take_at, drop_at, length-take-le}
use borrow.Author.Tests.{leb-true, le-leb, not-true}
use Rattle.base.specs.Choice.{both_true, both_pass, test_cases}
use Rattle.base.specs.ListLaws.{all-zeros, zeros_are}
use Rattle.base.specs.Lists.{all, is_nil, is_zero}
use Rattle.register.specs.Buffer.{
  register_size,
  header_size,
  slot_size,
  cell_of,
  slots_of,
  register_image,
  text_in,
  lines_in,
  header_in,
  slots_in,
  register_in,
  slot_cell_keeps,
  slots_keep,
  register_keeps_rules,
  buffer_keeps,
}
use Rattle.register.specs.Line.{has_form, is_currency}
use Rattle.register.specs.LineLaws.{is_text, currency_size, currency_text, line_size_lem, line_text}
use Rattle.register.specs.Register.{Lines, Register, most_lines, differ, held_form, is_house}
use Rattle.register.specs.RegisterLaws.{RegisterSound, all_forms, form_has}

-- a cell: its size, and its text is read back, with zeros behind it
pub cell_size_lem : (size : ℕ) (text : List ℕ) → length text ≤ size → length (cell_of size text) ≡ size
unfolding cell_of
cell_size_lem size text h = simp (length-append, length-replicate) (omega arith)

text_some : (b : ℕ) → is_text b ≡ true → is_zero b ≡ false
unfolding is_text
text_some b e = not-true (is_zero b) e

pub text_read : (text zeros : List ℕ) → all is_text text ≡ true → all is_zero zeros ≡ true → text_in (text ++ zeros) ≡ text
unfolding text_in all is_text
text_read [] [] t z = refl
text_read [] (b ∷ zeros) t z = rw (text_in, (both_true (is_zero b) (all is_zero zeros) z).0)
text_read (b ∷ text) zeros t z =
    let parts = both_true (is_text b) (all is_text text) t in
    rw (text_in, text_some b parts.0, text_read text zeros parts.1 z)

-- a cell is the text read, and what lies behind it
pub text_front : (cell : List ℕ) → text_in cell ++ drop (length (text_in cell)) cell ≡ cell
unfolding text_in
text_front [] = refl
text_front (b ∷ cell) =
    test_cases
    (λ t. (let l = elim t as (λ _. List ℕ) [ true ↦ [] | false ↦ b ∷ text_in cell ] in l ++ drop (length l) (b ∷ cell) ≡ b ∷ cell))
    (is_zero b) (λ _. refl) (λ _. ap (λ (l : List ℕ). b ∷ l) (text_front cell))

pub cell-read : (size : ℕ) (text : List ℕ) → all is_text text ≡ true → text_in (cell_of size text) ≡ text
unfolding cell_of
cell-read size text e = text_read text (replicate (size - length text) 0) e (all-zeros (size - length text))

module _ (form : List ℕ → Bool) where
  pub cell_sound : (size : ℕ) (text : List ℕ) → all is_text text ≡ true → form text ≡ true → slot_cell_keeps form (cell_of size text) ≡ true
  unfolding slot_cell_keeps cell_of
  cell_sound size text t e =
      let zeros : List ℕ = replicate (size - length text) 0 in
      rw (cell-read size text t, e, drop_at text zeros (length text) refl) (all-zeros (size - length text))

  -- a cell that keeps its rule is that of the text read
  cell-is : (size : ℕ) (cell : List ℕ) → length cell ≡ size → slot_cell_keeps form cell ≡ true → cell_of size (text_in cell) ≡ cell
  unfolding slot_cell_keeps cell_of
  cell-is size cell is e =
      let text = text_in cell in
      let parts = both_true (form text) (all is_zero (drop (length text) cell)) e in
      let zeros = zeros_are (drop (length text) cell) parts.1 in
      let count : length (drop (length text) cell) ≡ size - length text = length-drop (length text) cell ∙ ap (λ n. n - length text) is in
      ap (λ (z : List ℕ). text ++ z) (sym (zeros ∙ ap (λ n. replicate n 0) count)) ∙ text_front cell

  pub cell-form : (cell : List ℕ) → slot_cell_keeps form cell ≡ true → form (text_in cell) ≡ true
  unfolding slot_cell_keeps
  cell-form cell e = (both_true (form (text_in cell)) (all is_zero (drop (length (text_in cell)) cell)) e).0

  pub cell-zeros : (cell : List ℕ) → slot_cell_keeps form cell ≡ true → all is_zero (drop (length (text_in cell)) cell) ≡ true
  unfolding slot_cell_keeps
  cell-zeros cell e = (both_true (form (text_in cell)) (all is_zero (drop (length (text_in cell)) cell)) e).1

first_zero : (zeros : List ℕ) → all is_zero zeros ≡ true → is_zero (get_or zeros 0 0) ≡ true
unfolding all
first_zero [] z = refl
first_zero (b ∷ zeros) z = (both_true (is_zero b) (all is_zero zeros) z).0

-- the first byte of a text isn't zero
text_first : (text rest : List ℕ) → 1 ≤ length text → all is_text text ≡ true → is_zero (get_or (text ++ rest) 0 0) ≡ false
unfolding all
text_first [] rest h t = absurd (omega arith)
text_first (b ∷ text) rest h t = text_some b (both_true (is_text b) (all is_text text) t).0

no_bytes : (l : List ℕ) → length l ≡ 0 → l ≡ []
no_bytes [] e = refl
no_bytes (b ∷ l) e = absurd (omega arith)

-- Lines in their slots, with zeros behind them: they keep the rules and are read back.
pub record ReadBack (form : List ℕ → Bool) (count : ℕ) (held : Lines) (slots : List ℕ) : Type 0 where
  pub lines : lines_in count slots ≡ held
  pub keep : slots_keep form count slots ≡ true

-- Slots that keep the rules are those of the lines read, with zeros behind them.
pub record SlotsFilled (form : List ℕ → Bool) (count : ℕ) (held : Lines) (slots : List ℕ) : Type 0 where
  pub lines : all form held ≡ true
  pub few : length held ≤ count
  pub is : slots_of held ++ replicate (slot_size * (count - length held)) 0 ≡ slots

-- slots one behind the other, and their size
pub slots_append : (xs ys : Lines) → slots_of (xs ++ ys) ≡ slots_of xs ++ slots_of ys
unfolding slots_of
slots_append [] ys = refl
slots_append (x ∷ xs) ys = ap (λ l. cell_of slot_size x ++ l) (slots_append xs ys) ∙ sym (append_assoc (cell_of slot_size x) (slots_of xs) (slots_of ys))

pub slots_size : (held : Lines) → all has_form held ≡ true → length (slots_of held) ≡ slot_size * length held
unfolding slots_of all
slots_size [] a = refl
slots_size (line ∷ held) a =
    let parts = both_true (has_form line) (all has_form held) a in
    let slot = cell_size_lem slot_size line (line_size_lem line parts.0).1 in
    let rest = slots_size held parts.1 in
    omega (arith, length-append (cell_of slot_size line) (slots_of held))

-- Both for lines of a form, whichever of the two it is.
module _ (form : List ℕ → Bool) (has : (line : List ℕ) → form line ≡ true → has_form line ≡ true) where
  slot-first : (line rest : List ℕ) → form line ≡ true → is_zero (get_or (cell_of slot_size line ++ rest) 0 0) ≡ false
  unfolding cell_of
  slot-first line rest e =
      let zeros : List ℕ = replicate (slot_size - length line) 0 in
      ap (λ l. is_zero (get_or l 0 0)) (append_assoc line zeros rest)
      ∙ text_first line (zeros ++ rest) (line_size_lem line (has line e)).0 (line_text line (has line e))

  none_back : (count : ℕ) (zeros : List ℕ) → all is_zero zeros ≡ true → ReadBack form count [] zeros
  unfolding lines_in slots_keep
  none_back zero zeros z = record { lines = refl; keep = refl }
  none_back (suc n) zeros z = record { lines = rw (lines_in, first_zero zeros z); keep = rw (slots_keep, first_zero zeros z) z }

  read_back : (count : ℕ) (held : Lines) (zeros : List ℕ) → all form held ≡ true → length held ≤ count → all is_zero zeros ≡ true
      → ReadBack form count held (slots_of held ++ zeros)
  unfolding slots_of lines_in slots_keep all
  read_back count [] zeros lines few z = none_back count zeros z
  read_back zero (line ∷ held) zeros lines few z = absurd (omega arith)
  read_back (suc n) (line ∷ held) zeros lines few z =
      let parts = both_true (form line) (all form held) lines in
      let ok = has line parts.0 in
      let rest = read_back n held zeros parts.1 (omega arith) z in
      let slots = slots_of held ++ zeros in
      let size = cell_size_lem slot_size line (line_size_lem line ok).1 in
      let whole : (cell_of slot_size line ++ slots_of held) ++ zeros ≡ cell_of slot_size line ++ slots =
      append_assoc (cell_of slot_size line) (slots_of held) zeros in
      let first = slot-first line slots parts.0 in
      record {
        lines = ap (lines_in (suc n)) whole ∙ rw (
          lines_in,
          first,
          take_at (cell_of slot_size line) slots slot_size size,
          drop_at (cell_of slot_size line) slots slot_size size,
          cell-read slot_size line (line_text line ok),
          rest.lines,
        );
        keep = ap (slots_keep form (suc n)) whole ∙ rw (
          slots_keep,
          first,
          take_at (cell_of slot_size line) slots slot_size size,
          drop_at (cell_of slot_size line) slots slot_size size,
          cell_sound form slot_size line (line_text line ok) parts.0,
          rest.keep,
        );
      }

  module _ (n : ℕ) (slots : List ℕ) (size : length slots ≡ slot_size * suc n) where
    filled_none : all is_zero slots ≡ true → SlotsFilled form (suc n) [] slots
    unfolding slots_of all
    filled_none z =
        let count : slot_size * (suc n - 0) ≡ length slots = omega arith in
        record { lines = refl; few = omega arith; is = ap (λ k. replicate k 0) count ∙ sym (zeros_are slots z) }

    less : (n k : ℕ) → suc n - suc k ≡ n - k
    less n k = omega arith

    filled_more : (held : Lines) → slot_cell_keeps form (take slot_size slots) ≡ true → SlotsFilled form n held (drop slot_size slots)
        → SlotsFilled form (suc n) (text_in (take slot_size slots) ∷ held) slots
    unfolding slots_of all
    filled_more held e w =
        let slot = take slot_size slots in
        let line = text_in slot in
        let zeros : List ℕ = replicate (slot_size * (n - length held)) 0 in
        let whole : cell_of slot_size line ≡ slot = cell-is form slot_size slot (length-take-le slot_size slots (omega arith)) e in
        record {
          lines = both_pass (cell-form form slot e) w.lines;
          few = omega (arith, w.few);
          is =
              ap (λ k. (cell_of slot_size line ++ slots_of held) ++ replicate (slot_size * k) 0) (less n (length held))
              ∙ append_assoc (cell_of slot_size line) (slots_of held) zeros
              ∙ ap₂ {C = List ℕ} ◌++◌ whole w.is
              ∙ take-append-drop slot_size slots;
        }

  filled : (count : ℕ) (slots : List ℕ) → length slots ≡ slot_size * count → slots_keep form count slots ≡ true
      → SlotsFilled form count (lines_in count slots) slots
  unfolding lines_in slots_keep slots_of all
  filled zero slots size e = record { lines = refl; few = omega arith; is = sym (no_bytes slots (omega arith)) }
  filled (suc n) slots size e =
      let behind : length (drop slot_size slots) ≡ slot_size * n = omega (arith, length-drop slot_size slots) in
      test_cases
      (λ t.
      elim t as (λ _. Bool) [ true ↦ all is_zero slots | false ↦ slot_cell_keeps form (take slot_size slots) && slots_keep form n (drop slot_size slots) ]
      ≡ true
      → SlotsFilled form (suc n) (elim t as (λ _. Lines) [ true ↦ [] | false ↦ text_in (take slot_size slots) ∷ lines_in n (drop slot_size slots) ]) slots)
      (is_zero (get_or slots 0 0))
      (λ _ z. filled_none n slots size z)
      (λ _ h.
      let parts = both_true (slot_cell_keeps form (take slot_size slots)) (slots_keep form n (drop slot_size slots)) h in
      filled_more n slots size (lines_in n (drop slot_size slots)) parts.0 (filled n (drop slot_size slots) behind parts.1))
      e

-- The house currency in the header: no byte of it is zero, and it fits.
pub house_cases : {A : Type 0} (house : List ℕ) → is_house house ≡ true → (house ≡ [] → A) → (is_currency house ≡ true → A) → A
unfolding is_house is_nil
house_cases [] e none some = none refl
house_cases (b ∷ house) e none some = some e

house_text : (house : List ℕ) → is_house house ≡ true → all is_text house ≡ true
unfolding all
house_text house e = house_cases house e (ap (all is_text)) (currency_text house)

pub house_size : (house : List ℕ) → is_house house ≡ true → length house ≤ 3
house_size house e = house_cases house e (λ none. omega (arith, ap length none)) (λ is. omega (arith, currency_size house is))

-- The sizes of a register's parts.
abbrev pub header_image : Register → List ℕ
header_image register = cell_of header_size register.house

abbrev pub slotted : Register → List ℕ
slotted register = slots_of register.lines ++ replicate (slot_size * (most_lines - length register.lines)) 0

module _ (register : Register) (s : RegisterSound register) where
  pub header_size_lem : length (header_image register) ≡ header_size
  header_size_lem = cell_size_lem header_size register.house (omega (arith, house_size register.house s.home))

  pub slotted_size : length (slotted register) ≡ slot_size * most_lines
  slotted_size =
      let few = s.few in
      length-append (slots_of register.lines) (replicate (slot_size * (most_lines - length register.lines)) 0)
      ∙ rw (slots_size register.lines (all_forms register s), length-replicate) (omega arith)

  pub image_size : length (register_image register) ≡ register_size
  unfolding register_image
  image_size = omega (arith, length-append (header_image register) (slotted register), header_size_lem, slotted_size)

-- The first law of a round trip: the image of a register, whatever lies behind it, keeps the rules and is read as that register.
module _ (register : Register) (s : RegisterSound register) (rest : List ℕ) where
  whole : register_image register ++ rest ≡ header_image register ++ (slotted register ++ rest)
  unfolding register_image
  whole = append_assoc (header_image register) (slotted register) rest

  slots_back : slots_in (register_image register ++ rest) ≡ slotted register
  slots_back =
      ap (λ l. take (slot_size * most_lines) (drop header_size l)) whole
      ∙ ap (take (slot_size * most_lines)) (drop_at (header_image register) (slotted register ++ rest) header_size (header_size_lem register s))
      ∙ take_at (slotted register) rest (slot_size * most_lines) (slotted_size register s)

  header-back : header_in (register_image register ++ rest) ≡ header_image register
  header-back = ap (take header_size) whole ∙ take_at (header_image register) (slotted register ++ rest) header_size (header_size_lem register s)

  house-back : text_in (header_in (register_image register ++ rest)) ≡ register.house
  house-back = ap text_in header-back ∙ cell-read header_size register.house (house_text register.house s.home)

  back : ReadBack (held_form register.house) most_lines register.lines (slots_in (register_image register ++ rest))
  back =
      subst (ReadBack (held_form register.house) most_lines register.lines) (sym slots_back)
      (read_back (held_form register.house) (form_has register.house) most_lines register.lines
      (replicate (slot_size * (most_lines - length register.lines)) 0) s.good s.few
      (all-zeros (slot_size * (most_lines - length register.lines))))

  pub image-read : register_in (register_image register ++ rest) ≡ register
  unfolding register_in
  image-read = λ i. record { house = house-back i; lines = back.lines i }

  pub image_sound : buffer_keeps (register_image register ++ rest) ≡ true
  unfolding buffer_keeps register_keeps_rules
  image_sound =
      let size = image_size register s in
      both_pass (le-leb register_size (length (register_image register ++ rest)) (omega (arith, length-append (register_image register) rest)))
      (both_pass (ap (slot_cell_keeps is_house) header-back
      ∙ cell_sound is_house header_size register.house (house_text register.house s.home) s.home)
      (both_pass (ap (λ h. slots_keep (held_form h) most_lines (slots_in (register_image register ++ rest))) house-back ∙ back.keep)
      (ap (λ (r : Register). differ r.lines) image-read ∙ s.different)))

-- what a buffer that keeps the rules keeps
pub record BufferKept (buffer : List ℕ) : Type 0 where
  pub size : register_size ≤ length buffer
  pub home : slot_cell_keeps is_house (header_in buffer) ≡ true
  pub slots : slots_keep (held_form (text_in (header_in buffer))) most_lines (slots_in buffer) ≡ true
  pub different : differ (register_in buffer).lines ≡ true

-- The second: a buffer that keeps the rules is the image of the register that is read, and that is one.
module _ (buffer : List ℕ) (e : buffer_keeps buffer ≡ true) where
  pub kept : BufferKept buffer
  unfolding buffer_keeps register_keeps_rules
  kept =
      let first = both_true (leb register_size (length buffer)) (register_keeps_rules buffer) e in
      let home = both_true (slot_cell_keeps is_house (header_in buffer)) _ first.1 in
      let slots = both_true (slots_keep (held_form (text_in (header_in buffer))) most_lines (slots_in buffer)) (differ (register_in buffer).lines)
      home.1 in
      record { size = leb-true register_size (length buffer) first.0; home = home.0; slots = slots.0; different = slots.1 }

  pub sound_size : register_size ≤ length buffer
  sound_size = kept.size

  slots_filled : SlotsFilled (held_form (text_in (header_in buffer))) most_lines (lines_in most_lines (slots_in buffer)) (slots_in buffer)
  slots_filled =
      let size = sound_size in
      filled (held_form (text_in (header_in buffer))) (form_has (text_in (header_in buffer))) most_lines (slots_in buffer)
      (length-take-le (slot_size * most_lines) (drop header_size buffer) (omega (arith, length-drop header_size buffer))) kept.slots

  pub read_sound : RegisterSound (register_in buffer)
  unfolding register_in
  read_sound =
      record {
        home = cell-form is_house (header_in buffer) kept.home;
        few = slots_filled.few;
        good = slots_filled.lines;
        different = kept.different;
      }

  pub read-image : register_image (register_in buffer) ≡ take register_size buffer
  unfolding register_image register_in
  read-image =
      let size = sound_size in
      let front : length (header_in buffer) ≡ header_size = length-take-le header_size buffer (omega arith) in
      ap₂ {C = List ℕ} ◌++◌ (cell-is is_house header_size (header_in buffer) front kept.home) slots_filled.is
      ∙ sym (take-add header_size (slot_size * most_lines) buffer)
