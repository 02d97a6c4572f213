-- A register read from a buffer: what its header tells, what the slots make of it, and where a line stands. Assumes nothing.
use Rattle.std.specs.Prelude.{Bool, ◌&&◌, ℕ, zero, suc, ◌+◌, ◌*◌, ◌-◌, ◌≤◌, ◌<◌, drop, get_or}
use Rattle.std.proofs.Math.Bool.{true, false, cond, not}
use Rattle.std.proofs.lemmas.Bool.{false≢true, lt-leb}
use mathlib.Core.List.{List, [], ◌∷◌, ◌++◌}
use Rattle.std.proofs.Math.Path.{◌≡◌, refl, sym, ap, subst}
use Rattle.std.proofs.Common.{◌∙◌, arith, take-append-drop, drop-drop, length-take-le, take_at, le-leb}
use Rattle.std.proofs.Math.ListN.{length, take}
use Rattle.std.proofs.lemmas.List.{length-map}
use Rattle.std.specs.Bool.{then_some}
use Rattle.base.specs.Choice.{both_pass, both_true, test_cases}
use Rattle.base.specs.ListLaws.{all_append, all_drop, all_inside, all_take, stretch_cut, stretch_front}
use Rattle.base.specs.Lists.{all, is_nil, is_zero}
use Rattle.register.specs.Buffer.{header_size, buffer_keeps, slot_cell_keeps, header_in, register_keeps_rules, lines_in, register_in, register_size, slot_size}
use Rattle.register.specs.Buffer.{slots_in, slots_keep, text_in}
use Rattle.register.specs.BufferLaws.{cell-form, cell-zeros, house_cases, house_size, kept, read_sound, sound_size, text_front, text_read}
use Rattle.register.specs.CallLaws.{open_broken, open_keeps}
use Rattle.register.specs.Calls.{buffer_open}
use Rattle.register.specs.Line.{has_form, is_currency, is_line, is_record}
use Rattle.register.specs.LineLaws.{currency_size, currency_text}
use Rattle.register.specs.Register.{Lines, differ, held_form, is_house, is_open, line_at, most_lines}
use Rattle.register.specs.RegisterLaws.{all_forms, currency_some, form_has, home_currency}
use Rattle.register_lines.specs.FieldLaws.{five_fields, four-fields}
use Rattle.register_lines.specs.Fields.{field_count, is_count}
use Rattle.register_lines.specs.declared.Fields.{Fields}
use Rattle.register_lines.specs.declared.Fields.TheVariants.{Four, Five}
use Rattle.std.specs.Prelude.{Some, None, Ok, Err}
use Rattle.register.specs.declared.Refusal.{Refusal}
use Rattle.register.specs.declared.Refusal.TheVariants.{BadBuffer}
use Rattle.register_reading.specs.declared.opened.Opened.{Opened}
use Rattle.register_reading.specs.Opened.{OpenedRead, OpenedReads}
use Rattle.register_reading.specs.Reading.{KeysRead, KeysReads, LinesCounted, Placed, RegisterKeyed, RegisterRead, RegisterReads, RegisterReady, SlotsHold}
use Rattle.register_reading.specs.Reading.{Trimmed, Unopened, fields_of, has_fields, header_fields, key_in, slot_at, slots_hold}
use Rattle.register_reading.specs.SlotLaws.{trim_line}

-- zeros from a later place on
later : (k m : ℕ) (l : List ℕ) → k ≤ m → all is_zero (drop k l) ≡ true → all is_zero (drop m l) ≡ true
later k m l h a =
    let at : k + (m - k) ≡ m = omega arith in
    ap (all is_zero) (ap (λ n. drop n l) (sym at) ∙ sym (drop-drop (m - k) k l)) ∙ all_drop is_zero (m - k) (drop k l) a

-- The header: by its first three bytes and those behind them.
module _ (header : List ℕ) (size : length header ≡ header_size) where
  fields_by : (t : Bool) → slot_cell_keeps is_house header ≡ t → header_fields header ≡ cond t (Some (fields_of (text_in header))) None
  unfolding header_fields
  fields_by t e = rw e

  -- a header that can't keep its rule
  broken : (slot_cell_keeps is_house header ≡ true → ⊥) → None ≡ header_fields header
  broken n =
      test_cases (λ t. slot_cell_keeps is_house header ≡ t → None ≡ header_fields header) (slot_cell_keeps is_house header)
      (λ e _. absurd (n e)) (λ e _. sym (fields_by false e)) refl

  whole : take 3 header ++ drop 3 header ≡ header
  whole = take-append-drop 3 header

  front : length (take 3 header) ≡ 3
  front = length-take-le 3 header (omega arith)

  pub header-behind : all is_zero (drop 3 header) ≡ false → None ≡ header_fields header
  header-behind e =
      broken (λ keeps.
      let few = house_size (text_in header) (cell-form is_house header keeps) in
      false≢true (sym e ∙ later (length (text_in header)) 3 header few (cell-zeros is_house header keeps)))

  module _ (behind : all is_zero (drop 3 header) ≡ true) where
    pub header_old : all is_zero (take 3 header) ≡ true → Some Four ≡ header_fields header
    unfolding slot_cell_keeps is_house is_nil fields_of all
    header_old e =
        let zeros : all is_zero header ≡ true = ap (all is_zero) (sym whole) ∙ all_append is_zero (take 3 header) (drop 3 header) e behind in
        let none : text_in header ≡ [] = text_read [] header refl zeros in
        let keeps : slot_cell_keeps is_house header ≡ true = rw none zeros in
        sym (fields_by true keeps ∙ ap (λ h. Some (fields_of h)) none)

    pub header_open : is_currency (take 3 header) ≡ true → Some Five ≡ header_fields header
    unfolding slot_cell_keeps fields_of
    header_open is =
        let house : text_in header ≡ take 3 header =
        ap text_in (sym whole) ∙ text_read (take 3 header) (drop 3 header) (currency_text (take 3 header) is) behind in
        let keeps : slot_cell_keeps is_house header ≡ true =
        both_pass (ap is_house house ∙ home_currency (take 3 header) is)
        (ap (λ k. all is_zero (drop k header)) (ap length house ∙ front) ∙ behind) in
        sym (fields_by true keeps ∙ ap (λ h. Some (fields_of h)) house ∙ rw (currency_some (take 3 header) is))

  pub header_neither : all is_zero (take 3 header) ≡ false → is_currency (take 3 header) ≡ false → None ≡ header_fields header
  header_neither some other =
      broken (λ keeps.
      let house = text_in header in
      house_cases house (cell-form is_house header keeps)
      (λ none. false≢true (sym some ∙ all_take is_zero 3 header (ap (λ (h : List ℕ). all is_zero (drop (length h) header)) (sym none)
      ∙ cell-zeros is_house header keeps)))
      (λ is.
      let at : take 3 header ≡ house = ap (take 3) (sym (text_front header))
      ∙ take_at house (drop (length house) header) 3 (currency_size house is) in
      false≢true (sym other ∙ ap is_currency at ∙ is)))

-- a header that tells a number of fields keeps its rule, and one that tells none breaks it
module _ (header : List ℕ) where
  pub header_keeps : (fields : Fields) → header_fields header ≡ Some fields
      → (slot_cell_keeps is_house header ≡ true) × (fields ≡ fields_of (text_in header))
  unfolding header_fields
  header_keeps fields = keeps (slot_cell_keeps is_house header)
    where
      keeps : (t : Bool) → cond t (Some (fields_of (text_in header))) None ≡ Some fields → (t ≡ true) × (fields ≡ fields_of (text_in header))
      keeps true e = (refl, cc)
      keeps false e = cc

  header_lacks : header_fields header ≡ None → slot_cell_keeps is_house header ≡ false
  unfolding header_fields
  header_lacks = lacks (slot_cell_keeps is_house header)
    where
      lacks : (t : Bool) → cond t (Some (fields_of (text_in header))) None ≡ None → t ≡ false
      lacks true e = cc
      lacks false e = refl

-- the number of fields tells the form
form-fields : (house : List ℕ) → has_fields (fields_of house) ≡ held_form house
unfolding has_fields fields_of held_form
form-fields house =
    test_cases (λ t. ◌≡◌ {A = List ℕ → Bool} (λ line. is_count (cond t Four Five) (field_count line)) (λ line. cond t (is_line line) (is_record line)))
    (is_nil house)
    (λ _ i line. four-fields line i) (λ _ i line. five_fields line i)

-- Reading: a buffer that is too small, one whose header breaks its rule, and one that is judged by its slots
read_broken : (buffer keys : List ℕ) → buffer_keeps buffer ≡ false → RegisterRead buffer keys None
unfolding RegisterReads
read_broken buffer keys e = record { finds = e }

module _ (buffer keys : List ℕ) where
  pub buffer_small : length buffer < register_size → RegisterRead buffer keys None
  unfolding buffer_keeps
  buffer_small h = read_broken buffer keys (ap (λ b. b && register_keeps_rules buffer) (lt-leb register_size (length buffer) h))

  pub header_bad : register_size ≤ length buffer → header_fields (header_in buffer) ≡ None → RegisterRead buffer keys None
  unfolding buffer_keeps register_keeps_rules
  header_bad h e = read_broken buffer keys (rw (le-leb register_size (length buffer) h, header_lacks (header_in buffer) e))

module _ (buffer : List ℕ) (fields : Fields) (h : register_size ≤ length buffer) (is : header_fields (header_in buffer) ≡ Some fields) where
  fields_are : fields ≡ fields_of (text_in (header_in buffer))
  fields_are = (header_keeps (header_in buffer) fields is).1

  judged : buffer_keeps buffer ≡ slots_hold fields (slots_in buffer)
  unfolding buffer_keeps register_keeps_rules register_in slots_hold
  judged =
      rw (le-leb register_size (length buffer) h, (header_keeps (header_in buffer) fields is).0)
      (ap (λ f. slots_keep f most_lines (slots_in buffer) && differ (lines_in most_lines (slots_in buffer)))
      (sym (ap has_fields fields_are ∙ form-fields (text_in (header_in buffer)))))

  pub read_told : (keys : List ℕ) (t : Bool) → SlotsHold (slots_hold fields (slots_in buffer)) (lines_in most_lines (slots_in buffer)) keys t
      → RegisterRead buffer keys (then_some t fields)
  unfolding RegisterReads register_in
  read_told keys true found =
      record { finds = record { keeps = judged ∙ sym found.told; form = fields_are; keyed = found.keyed refl } }
  read_told keys false found = read_broken buffer keys (judged ∙ sym found.told)

-- What was read, by what came back; W10.6 the buffers that every call but opening turns down.
module _ (buffer : List ℕ) where
  pub is_broken : (keys : List ℕ) → RegisterRead buffer keys None → buffer_keeps buffer ≡ false
  unfolding RegisterReads
  is_broken keys read = read.finds

  pub read_known : (keys : List ℕ) (fields : Fields) → RegisterRead buffer keys (Some fields) → RegisterKeyed buffer fields keys
  unfolding RegisterReads
  read_known keys fields read = read.finds

  module _ (keys : List ℕ) where
    pub held_opened : RegisterKeyed buffer Five keys → RegisterReady buffer keys
    unfolding is_open fields_of
    held_opened held = record { keeps = held.keeps; is_open_lem = some (is_nil (register_in buffer).house) held.form; keyed = held.keyed }
      where
        some : (t : Bool) → Five ≡ cond t Four Five → not t ≡ true
        some true e = cc
        some false e = refl

    pub held_old : RegisterKeyed buffer Four keys → Unopened buffer (length keys)
    unfolding is_open fields_of
    held_old held =
        record {
          keeps = held.keeps;
          is_old = none (is_nil (register_in buffer).house) held.form;
          count = ap length held.keyed ∙ length-map (register_in buffer).lines key_in;
        }
      where
        none : (t : Bool) → Four ≡ cond t Four Five → not t ≡ false
        none true e = refl
        none false e = cc

    pub ready_counted : RegisterReady buffer keys → LinesCounted buffer (length keys)
    ready_counted ready =
        record {
          keeps = ready.keeps;
          is_open_lem = ready.is_open_lem;
          count = ap length ready.keyed ∙ length-map (register_in buffer).lines key_in;
        }

  -- the keys of an opened register
  pub keys_ready : (keys : List ℕ) → RegisterRead buffer keys (Some Five) → KeysRead buffer keys (Ok tt)
  unfolding KeysReads
  keys_ready keys read = record { finds = held_opened keys (read_known keys Five read) }

  pub old_refused : (keys : List ℕ) → RegisterRead buffer keys (Some Four) → KeysRead buffer keys (Err BadBuffer)
  unfolding KeysReads
  old_refused keys read = let u = held_old keys (read_known keys Four read) in record { finds = (refl, open_keeps buffer u.keeps ∙ u.is_old) }

  pub broken_refused : (keys : List ℕ) → RegisterRead buffer keys None → KeysRead buffer keys (Err BadBuffer)
  unfolding KeysReads
  broken_refused keys read = record { finds = (refl, open_broken buffer (is_broken keys read)) }

  -- what is known of an opened register that was read, and of any other buffer
  pub keys_known : (keys : List ℕ) (u : Unit {0}) → KeysRead buffer keys (Ok u) → RegisterReady buffer keys
  unfolding KeysReads
  keys_known keys u read = read.finds

  pub keys_refused : (keys : List ℕ) (refusal : Refusal) → KeysRead buffer keys (Err refusal) → (refusal ≡ BadBuffer) × (buffer_open buffer ≡ false)
  unfolding KeysReads
  keys_refused keys refusal read = read.finds

-- likewise with the lines counted
pub opened_at : (buffer : List ℕ) (register : Opened) → register.buffer.now ≡ buffer → OpenedRead buffer (Ok register)
unfolding OpenedReads
opened_at buffer register is = record { finds = is }

pub not_opened : (buffer keys : List ℕ) (refusal : Refusal) → KeysRead buffer keys (Err refusal) → OpenedRead buffer (Err refusal)
unfolding OpenedReads
not_opened buffer keys refusal read = record { finds = keys_refused buffer keys refusal read }

pub opened_known : (buffer : List ℕ) (register : Opened) → OpenedRead buffer (Ok register) → register.buffer.now ≡ buffer
unfolding OpenedReads
opened_known buffer register read = read.finds

pub opened_refused : (buffer : List ℕ) (refusal : Refusal) → OpenedRead buffer (Err refusal) → (refusal ≡ BadBuffer) × (buffer_open buffer ≡ false)
unfolding OpenedReads
opened_refused buffer refusal read = read.finds

-- The line of a place stands in its slot, which keeps its rule
record SlotHolds (form : List ℕ → Bool) (slot line : List ℕ) : Type 0 where
  is : text_in slot ≡ line
  keeps : slot_cell_keeps form slot ≡ true

abbrev slot_on : (slots : List ℕ) (k : ℕ) → List ℕ
slot_on slots k = take slot_size (drop (slot_size * k) slots)

slots_at : (form : List ℕ → Bool) (count : ℕ) (slots : List ℕ) (k : ℕ) → slots_keep form count slots ≡ true → k < length (lines_in count slots)
    → SlotHolds form (slot_on slots k) (get_or (lines_in count slots) k [])
unfolding lines_in slots_keep
slots_at form zero slots k e h = absurd (omega arith)
slots_at form (suc n) slots k e h =
    test_cases
    (λ t.
    (let lines = elim t as (λ _. Lines) [ true ↦ [] | false ↦ text_in (take slot_size slots) ∷ lines_in n (drop slot_size slots) ] in
    elim t as (λ _. Bool) [ true ↦ all is_zero slots | false ↦ slot_cell_keeps form (take slot_size slots) && slots_keep form n (drop slot_size slots) ] ≡ true
    → k < length lines → SlotHolds form (slot_on slots k) (get_or lines k [])))
    (is_zero (get_or slots 0 0)) (λ _ _ none. absurd (omega arith))
    (λ _ keep. let parts = both_true (slot_cell_keeps form (take slot_size slots)) (slots_keep form n (drop slot_size slots)) keep in
    placed k parts.0 (λ j. slots_at form n (drop slot_size slots) j parts.1))
    e h
  where
    rest : Lines
    rest = lines_in n (drop slot_size slots)

    placed : (k : ℕ) → slot_cell_keeps form (take slot_size slots) ≡ true
        → ((j : ℕ) → j < length rest → SlotHolds form (slot_on (drop slot_size slots) j) (get_or rest j []))
        → k < suc (length rest)
        → SlotHolds form (slot_on slots k) (get_or (text_in (take slot_size slots) ∷ rest) k [])
    placed zero keeps behind inside = record { is = refl; keeps = keeps }
    placed (suc j) keeps behind inside =
        let at : slot_size + slot_size * j ≡ slot_size * suc j = omega arith in
        subst (λ l. SlotHolds form (take slot_size l) (get_or rest j [])) (drop-drop (slot_size * j) slot_size slots ∙ ap (λ n. drop n slots) at)
        (behind j (omega arith))

-- an opened register has a line at each place below their count
pub placed_below : (buffer : List ℕ) (n : ℕ) → LinesCounted buffer n → (place : ℕ) → place < n → Placed buffer place
placed_below buffer n c place h = record { keeps = c.keeps; inside = omega (arith, c.count) }

module _ (buffer : List ℕ) (place : ℕ) (p : Placed buffer place) where
  pub place_few : place < most_lines
  place_few = omega (arith, p.inside, (read_sound buffer p.keeps).few)

  abbrev at : ℕ
  at = slot_at place

  abbrev slot : List ℕ
  slot = take slot_size (drop at buffer)

  pub slot_room : at + slot_size ≤ length buffer
  slot_room =
      let size = sound_size buffer p.keeps in
      let few = (read_sound buffer p.keeps).few in
      omega (arith, p.inside)

  abbrev form : List ℕ → Bool
  form = held_form (text_in (header_in buffer))

  here : SlotHolds form slot (line_at (register_in buffer).lines place)
  unfolding line_at register_in
  here =
      let few = (read_sound buffer p.keeps).few in
      subst (λ s. SlotHolds form s (get_or (lines_in most_lines (slots_in buffer)) place []))
      (stretch_front slot_size (slot_size * place) (slot_size * most_lines) (drop header_size buffer) (omega arith)
      ∙ ap (take slot_size) (drop-drop (slot_size * place) header_size buffer))
      (slots_at form most_lines (slots_in buffer) place (kept buffer p.keeps).slots p.inside)

  module _ (from : ℕ) (e : from ≡ at) (size : ℕ) (t : Trimmed (take (from + slot_size - from) (drop from buffer)) size) where
    slot_is : take (from + slot_size - from) (drop from buffer) ≡ slot
    slot_is = stretch_cut buffer from slot_size ∙ ap (λ k. take slot_size (drop k buffer)) e

    pub line_stands : take size (take (from + slot_size - from) (drop from buffer)) ≡ line_at (register_in buffer).lines place
    line_stands =
        ap (take size) slot_is
        ∙ trim_line form (form_has (text_in (header_in buffer))) slot size (subst (λ s. Trimmed s size) slot_is t) here.keeps
        ∙ here.is

  pub here-form : has_form (line_at (register_in buffer).lines place) ≡ true
  unfolding line_at
  here-form =
      all_inside has_form (register_in buffer).lines [] (all_forms (register_in buffer) (read_sound buffer p.keeps)) place p.inside
