-- A line stored in its slot, a line handed out, and the number for a line offered. Assumes nothing.
use Rattle.std.specs.Prelude.{Bool, true, false, cond, ◌≡◌, refl, eqb, leb, take}
use mathlib.Core.List.{List, [], ◌∷◌, ◌++◌, append_assoc, append-nil}
use Rattle.std.proofs.Math.Path.{sym, ap, ap₂}
use Rattle.std.proofs.Common.{drop-drop, subst, ◌∙◌, zero-add, take-append-drop, length-take-le, take-take, eq-eqb, eqb-true, le-leb, leb-true}
use Prim.Native.Nat.{ℕ, ◌+◌, ◌*◌, ◌-◌, ◌≤◌, ◌<◌}
use native.Mathlib.Omega.{arith}
use Rattle.std.proofs.Math.ListN.{get_or-eq_default, length, drop, replicate, length-append, replicate-append-replicate}
use Rattle.std.proofs.lemmas.List.{length-map, length-replicate}
use Rattle.std.proofs.Math.Seq.{take_at}
use Rattle.std.specs.Prelude.{Option, Some, None, Result, Ok, Err}
use Rattle.register.specs.Refusals.{number_of, refusal_number}
use Rattle.register.specs.declared.Refusal.{Refusal}
use Rattle.register.specs.declared.Refusal.TheVariants.{BadBuffer, OutputFull, BadLine, ContractHeld, Full, BadCurrency}
use denote.Enum.Bare.{sameb}
use Rattle.std.specs.Borrow.{Bor}
use Rattle.register_lines.specs.contracts.Fields.{the_type}
use Rattle.register_lines.specs.declared.Fields.{Fields}
use Rattle.register_lines.specs.declared.Fields.TheVariants.{Four, Five}
use Rattle.register_lines.specs.declared.Form.{Form}
use borrow.Rule.Slice.PartMut.{put_mid}
use Rattle.base.specs.Choice.{same_truth}
use Rattle.base.specs.ListLaws.{drop-zeros}
use Rattle.base.specs.Lists.{among}
use Rattle.cards.specs.Bytes.{comma, is_name_byte}
use Rattle.cards.specs.Cards.{without_blanks}
use Rattle.card_reader.specs.Keys.{key_of}
use Rattle.encoding.specs.Splices.{splice, splice-behind, splice_seam, take-splice}
use Rattle.register.specs.Buffer.{buffer_keeps, cell_of, header_in, header_size, register_image, register_in, register_size, slot_size, slots_of, text_in}
use Rattle.register.specs.BufferLaws.{header_image, header_size_lem, read-image, read_sound, slots_append, slots_size, sound_size, text_front}
use Rattle.register.specs.CallLaws.{line_handed, line_refused, offer_taken, offer_declined, offer_refused, open_keeps}
use Rattle.register.specs.Calls.{buffer_open, handing, line_call, line_size, offer_call, register_turned_down, with_register}
use Rattle.register.specs.Claims.{buffer_back, line_back}
use Rattle.register.specs.Line.{contract_of, has_form, is_currency, stored, with_currency}
use Rattle.register.specs.LineLaws.{currency_size, line_size_lem, record_form}
use Rattle.register.specs.Register.{Lines, Register, is_held, line_at, lowest_of, most_lines, offer_number}
use Rattle.register.specs.RegisterLaws.{OfferTaken, all_forms, house_open, stored_record, taken}
use Rattle.register_lines.specs.FieldLaws.{contract_size, count_none, four-fields}
use Rattle.register_lines.specs.Fields.{FormFound, RunOfBytes, field_count, is_count}
use Rattle.register_reading.specs.KeyLaws.{key-read, keys_hold}
use Rattle.register_reading.specs.ReadLaws.{here-form, keys_refused, opened_refused, placed_below}
use Rattle.register_reading.specs.Opened.{OpenedRead}
use Rattle.register_reading.specs.Reading.{KeysRead, LinesCounted, RegisterReady, key_in, slot_at}
use Rattle.register_calls.specs.Putting.{LineHeld, LineHolds, OfferJudged, Keyed, stored_by}

refusal_some : (refusal : Refusal) → ¬ (refusal_number refusal ≡ 0)
refusal_some BadBuffer e = omega arith
refusal_some OutputFull e = omega arith
refusal_some BadLine e = omega arith
refusal_some ContractHeld e = omega arith
refusal_some Full e = omega arith
refusal_some BadCurrency e = omega arith

-- bytes copied over a part of others
pub copied : (d : List ℕ) (at n : ℕ) (copy v : List ℕ) → copy ≡ v → n ≡ length v → put_mid at n d copy ≡ splice d at v
unfolding splice
copied d at n copy v same size = rw (same, size) (ap (λ l. take at d ++ (v ++ l)) (drop-drop (length v) at d))

-- slots with zeros behind them, with a line over the first of these
slots_put : (held : Lines) (line : List ℕ) → length line ≤ slot_size → length held < most_lines
    → (slots_of held ++ line) ++ replicate (slot_size * (most_lines - length held) - length line) 0
    ≡ slots_of (held ++ (line ∷ [])) ++ replicate (slot_size * (most_lines - length (held ++ (line ∷ [])))) 0
unfolding cell_of slots_of
slots_put held line fits room =
    let n = length held in
    let more : length (held ++ (line ∷ [])) ≡ n + 1 = length-append held (line ∷ []) in
    let size : slot_size - length line + slot_size * (most_lines - length (held ++ (line ∷ []))) ≡ slot_size * (most_lines - n) - length line =
    omega (arith, more) in
    let own : List ℕ = replicate (slot_size - length line) 0 in
    let others : List ℕ = replicate (slot_size * (most_lines - length (held ++ (line ∷ [])))) 0 in
    ap (λ k. (slots_of held ++ line) ++ replicate k 0) (sym size)
    ∙ ap (λ l. (slots_of held ++ line) ++ l) (sym (replicate-append-replicate (slot_size - length line)
    (slot_size * (most_lines - length (held ++ (line ∷ [])))) 0))
    ∙ joined (slots_of held) line own others
    ∙ ap (λ l. l ++ others) (sym (slots_append held (line ∷ []) ∙ ap (λ l. slots_of held ++ l) (append-nil (cell_of slot_size line))))
  where
    joined : (s l o t : List ℕ) → (s ++ l) ++ (o ++ t) ≡ (s ++ (l ++ o)) ++ t
    joined s l o t = simp append_assoc

-- bytes put over as many others, deep in a buffer
slot_seam : (h s x y rest line : List ℕ) (at : ℕ) → length (h ++ s) ≡ at → length x ≡ length line
    → splice ((h ++ (s ++ (x ++ y))) ++ rest) at line ≡ (h ++ ((s ++ line) ++ y)) ++ rest
slot_seam h s x y rest line at e f =
    let whole : (h ++ (s ++ (x ++ y))) ++ rest ≡ (h ++ s) ++ (x ++ (y ++ rest)) = simp append_assoc in
    ap (λ l. splice l at line) whole ∙ splice_seam (h ++ s) x (y ++ rest) line at e f ∙ simp append_assoc

-- a line put behind all others
module _ (buffer : List ℕ) (e : buffer_keeps buffer ≡ true) (line : List ℕ) (fits : length line ≤ slot_size)
    (room : length (register_in buffer).lines < most_lines) where
  abbrev r : Register
  r = register_in buffer

  pub line_room : slot_at (length r.lines) + length line ≤ length buffer
  line_room = let size = sound_size buffer e in omega (arith, fits)

  pub line-put : splice buffer (slot_at (length r.lines)) line ≡ with_register buffer (record { house = r.house; lines = r.lines ++ (line ∷ []) })
  unfolding with_register register_image
  line-put =
      let s = read_sound buffer e in
      let n = length r.lines in
      let first : List ℕ = replicate (length line) 0 in
      let others : List ℕ = replicate (slot_size * (most_lines - n) - length line) 0 in
      let rest = drop register_size buffer in
      let count : length line + (slot_size * (most_lines - n) - length line) ≡ slot_size * (most_lines - n) = omega arith in
      let zeros : first ++ others ≡ replicate (slot_size * (most_lines - n)) 0 =
      replicate-append-replicate (length line) (slot_size * (most_lines - n) - length line) 0 ∙ ap (λ k. replicate k 0) count in
      let whole : buffer ≡ (header_image r ++ (slots_of r.lines ++ (first ++ others))) ++ rest =
      sym (take-append-drop register_size buffer) ∙ ap (λ l. l ++ rest) (sym (read-image buffer e))
      ∙ ap (λ l. (header_image r ++ (slots_of r.lines ++ l)) ++ rest) (sym zeros) in
      let before : length (header_image r ++ slots_of r.lines) ≡ slot_at n =
      length-append (header_image r) (slots_of r.lines) ∙ ap₂ {C = ℕ} ◌+◌ (header_size_lem r s) (slots_size r.lines (all_forms r s)) in
      ap (λ b. splice b (slot_at n) line) whole
      ∙ slot_seam (header_image r) (slots_of r.lines) first others rest line (slot_at n) before (length-replicate {A = ℕ} (length line) 0)
      ∙ ap (λ l. (header_image r ++ l) ++ rest) (slots_put r.lines line fits room)

-- a line with the house currency behind it or without, as the number of its fields tells
pub stored_is : (fields : Fields) (house line : List ℕ) → field_count line ≡ Some fields → stored_by fields house line ≡ stored house line
unfolding stored_by stored is_count
stored_is Four house line e = ap (λ t. cond t (with_currency house line) line) (sym (ap (is_count Four) e) ∙ four-fields line)
stored_is Five house line e = ap (λ t. cond t (with_currency house line) line) (sym (ap (is_count Four) e) ∙ four-fields line)

-- whether the house currency is put
pub is_four : (fields : Fields) → sameb the_type fields Four ≡ true → fields ≡ Four
is_four Four e = refl
is_four Five e = cc

pub is_five : (fields : Fields) → sameb the_type fields Four ≡ false → fields ≡ Five
is_five Four e = cc
is_five Five e = refl

-- what putting a line, and a comma and the house currency behind it, comes to
module _ (buffer line : List ℕ) (at : ℕ) where
  abbrev house : List ℕ
  house = take 3 buffer

  module _ (fields : Fields) (room : at + length (stored_by fields house line) ≤ length buffer) where
    pub room_any : at + length line ≤ length buffer
    unfolding stored_by with_currency comma
    room_any = any fields room
      where
        any : (f : Fields) → at + length (stored_by f house line) ≤ length buffer → at + length line ≤ length buffer
        any Four h = omega (arith, h, length-append line (44 ∷ house))
        any Five h = h

  pub put_five : splice buffer at line ≡ splice buffer at (stored_by Five house line)
  unfolding stored_by
  put_five = refl

  module _ (low : 3 ≤ at) (room : at + length (stored_by Four house line) ≤ length buffer) where
    room_line : at + length line ≤ length buffer
    room_line = room_any Four room

    pub room_four : at + length line + 4 ≤ length buffer
    unfolding stored_by with_currency comma
    room_four = omega (arith, room, length-append line (44 ∷ house), length-take-le 3 buffer (omega (arith, low, room_line)))

    -- the house currency is still there behind the line put
    pub house_stays : take 3 (splice buffer at line) ≡ house
    house_stays =
        sym (take-take 3 at (splice buffer at line) low) ∙ ap (take 3) (take-splice buffer at line (omega (arith, room_line)))
        ∙ take-take 3 at buffer low

    pub put_four : (copy : List ℕ) → copy ≡ take 3 (splice buffer at line)
        → splice (splice buffer at line) (at + length line) (44 ∷ copy) ≡ splice buffer at (stored_by Four house line)
    unfolding stored_by with_currency comma
    put_four copy is =
        ap (λ c. splice (splice buffer at line) (at + length line) (44 ∷ c)) (is ∙ house_stays)
        ∙ splice-behind buffer at line (44 ∷ house) (omega (arith, room_line))

fields_in : Result Form Refusal → Option Fields
fields_in (Ok form) = Some form.fields
fields_in (Err refusal) = None

-- The number for a line offered, by what the code asks: its form, whether its key is among the others, whether all places are taken
module _ (line keys : List ℕ) (contract key : ℕ) (run : RunOfBytes is_name_byte line contract)
    (k : key ≡ key_of (without_blanks (take 8 (take contract line)))) where
  held-is : (held : Lines) → Keyed held keys → has_form line ≡ true → among key keys ≡ is_held held (contract_of line)
  held-is held r form =
      ap₂ {C = Bool} among (k ∙ key-read line contract form (contract_size line contract run form)) r.keyed
      ∙ keys_hold held line r.good form

  full_is : (held : Lines) → Keyed held keys → eqb (length keys) most_lines ≡ leb most_lines (length held)
  full_is held r =
      let count : length keys ≡ length held = ap length r.keyed ∙ length-map held key_in in
      same_truth (eqb (length keys) most_lines) (leb most_lines (length held))
      (λ e. le-leb most_lines (length held) (omega (arith, eqb-true (length keys) most_lines e, count)))
      (λ e. eq-eqb (length keys) most_lines (omega (arith, leb-true most_lines (length held) e, count, r.few)))

  pub held_judged : has_form line ≡ true → among key keys ≡ true → OfferJudged line keys (Err ContractHeld)
  unfolding offer_number lowest_of
  held_judged form found =
      record { judged = λ held r. rw (form, sym (held-is held r form) ∙ found); counted = λ f e. cc }

  module _ (form : has_form line ≡ true) (other : among key keys ≡ false) where
    pub full_judged : eqb (length keys) most_lines ≡ true → OfferJudged line keys (Err Full)
    unfolding offer_number lowest_of
    full_judged e =
        record { judged = λ held r. rw (form, sym (held-is held r form) ∙ other, sym (full_is held r) ∙ e); counted = λ f k. cc }

    pub taken_judged : (found : Form) → field_count line ≡ Some found.fields → eqb (length keys) most_lines ≡ false → OfferJudged line keys (Ok found)
    unfolding offer_number lowest_of fields_in
    taken_judged found count e =
        record {
          judged = λ held r. rw (form, sym (held-is held r form) ∙ other, sym (full_is held r) ∙ e);
          counted = λ f k. count ∙ ap (λ (r : Result Form Refusal). fields_in r) k;
        }

-- the form that was found
pub form_known : (line : List ℕ) (r : Option Form) (form : Form) → FormFound line r → r ≡ Some form
    → (field_count line ≡ Some form.fields) × RunOfBytes is_name_byte line form.contract
unfolding FormFound
form_known line r form found is = subst (FormFound line) is found

pub none_known : (line : List ℕ) (r : Option Form) → FormFound line r → r ≡ None → field_count line ≡ None
unfolding FormFound
none_known line r found is = subst (FormFound line) is found

pub bad_judged : (line keys : List ℕ) → field_count line ≡ None → OfferJudged line keys (Err BadLine)
unfolding offer_number lowest_of
bad_judged line keys none = record { judged = λ held r. rw (count_none line none); counted = λ f e. cc }

-- An offer to an opened register, by its number
module _ (buffer line keys : List ℕ) (ready : RegisterReady buffer keys) (r : Result Form Refusal) (j : OfferJudged line keys r) where
  is_ready : buffer_open buffer ≡ true
  is_ready = open_keeps buffer ready.keeps ∙ ready.is_open_lem

  keyed : Keyed (register_in buffer).lines keys
  keyed =
      let s = read_sound buffer ready.keeps in
      record { good = all_forms (register_in buffer) s; few = s.few; keyed = ready.keyed }

  number_is : offer_number (register_in buffer).lines line ≡ number_of r
  number_is = sym (j.judged (register_in buffer).lines keyed)

  pub offer_kept : (refusal : Refusal) → r ≡ Err refusal → buffer_back (number_of r) buffer ≡ offer_call buffer line
  offer_kept refusal e = sym (offer_declined buffer line (number_of r) is_ready number_is (λ z. refusal_some refusal (sym (ap number_of e) ∙ z)))

  module _ (form : Form) (ok : r ≡ Ok form) where
    abbrev fields : Fields
    fields = form.fields

    zero_is : number_of r ≡ 0
    zero_is = ap number_of ok

    f : field_count line ≡ Some fields
    f = j.counted form ok

    takes : OfferTaken (register_in buffer).lines line
    takes = taken (register_in buffer).lines line (number_is ∙ zero_is)

    currency_is : is_currency (register_in buffer).house ≡ true
    currency_is = house_open (register_in buffer) (read_sound buffer ready.keeps).home ready.is_open_lem

    -- the house currency stands in the first three bytes
    house-here : take 3 buffer ≡ (register_in buffer).house
    unfolding register_in
    house-here =
        let h = text_in (header_in buffer) in
        sym (take-take 3 header_size buffer (omega arith))
        ∙ ap (take 3) (sym (text_front (header_in buffer)))
        ∙ take_at h (drop (length h) (header_in buffer)) 3 (currency_size h currency_is)

    text_is : stored_by fields (take 3 buffer) line ≡ stored (register_in buffer).house line
    text_is = ap (λ h. stored_by fields h line) house-here ∙ stored_is fields (register_in buffer).house line f

    fits : length (stored (register_in buffer).house line) ≤ slot_size
    fits =
        let text = stored (register_in buffer).house line in
        (line_size_lem text (record_form text (stored_record (register_in buffer).house currency_is line takes.form))).1

    count : length keys ≡ length (register_in buffer).lines
    count = ap length ready.keyed ∙ length-map (register_in buffer).lines key_in

    pub place_free : length keys < most_lines
    place_free = omega (arith, count, takes.room)

    pub offer_room : slot_at (length keys) + length (stored_by fields (take 3 buffer) line) ≤ length buffer
    offer_room =
        omega (
          arith,
          line_room buffer ready.keeps (stored (register_in buffer).house line) fits takes.room,
          count,
          ap length text_is,
        )

    pub offer_put : (left : List ℕ) → left ≡ splice buffer (slot_at (length keys)) (stored_by fields (take 3 buffer) line)
        → buffer_back 0 left ≡ offer_call buffer line
    offer_put left put =
        let at : splice buffer (slot_at (length keys)) (stored_by fields (take 3 buffer) line)
        ≡ splice buffer (slot_at (length (register_in buffer).lines)) (stored (register_in buffer).house line) =
        ap₂ {C = List ℕ} (λ m t. splice buffer (slot_at m) t) count text_is in
        ap (buffer_back 0)
        (put ∙ at ∙ line-put buffer ready.keeps (stored (register_in buffer).house line) fits takes.room)
        ∙ sym (offer_taken buffer line is_ready (number_is ∙ zero_is))

pub offer_refuses : (buffer line : List ℕ) → buffer_open buffer ≡ false → buffer_back 14 buffer ≡ offer_call buffer line
unfolding register_turned_down
offer_refuses buffer line e = sym (offer_refused buffer line e)

-- so what reading turns down
pub offer_unopened : (buffer keys line : List ℕ) (refusal : Refusal) → KeysRead buffer keys (Err refusal)
    → buffer_back (refusal_number refusal) buffer ≡ offer_call buffer line
offer_unopened buffer keys line refusal read =
    let r = keys_refused buffer keys refusal read in
    ap (λ k. buffer_back (refusal_number k) buffer) r.0 ∙ offer_refuses buffer line r.1

-- the line of a place
module _ (buffer : List ℕ) (n : ℕ) (c : LinesCounted buffer n) (place : ℕ) where
  lent : buffer_open buffer ≡ true
  lent = open_keeps buffer c.keeps ∙ c.is_open_lem

  pub line_there : place < n → (line : Bor (List ℕ)) → line.now ≡ line_at (register_in buffer).lines place → LineHeld buffer place (Ok line)
  unfolding LineHolds
  line_there h line is =
      let size = (line_size_lem (line_at (register_in buffer).lines place) (here-form buffer place (placed_below buffer n c place h))).1 in
      record { finds = (is, omega (arith, ap length is, size), lent) }

  pub line_none : n ≤ place → (line : Bor (List ℕ)) → line.now ≡ [] → LineHeld buffer place (Ok line)
  unfolding LineHolds line_at
  line_none h line is =
      let outside : length (register_in buffer).lines ≤ place = omega (arith, c.count) in
      let none = get_or-eq_default (register_in buffer).lines [] outside in
      record { finds = (is ∙ sym none, omega (arith, ap (λ (l : List ℕ). length l) is), lent) }

-- a line handed out, before zeros
line_handed_out : (line : List ℕ) → line_back 0 (splice (replicate line_size 0) 0 line) (length line) ≡ handing 0 line
unfolding handing splice
line_handed_out line =
    ap (λ l. line_back 0 (line ++ l) (length line)) (drop-zeros (0 + length line) line_size ∙ ap (λ k. replicate (line_size - k) 0) (zero-add (length line)))

module _ (buffer : List ℕ) (place : ℕ) where
  pub line_unopened : (refusal : Refusal) → OpenedRead buffer (Err refusal) → LineHeld buffer place (Err refusal)
  unfolding LineHolds
  line_unopened refusal read = record { finds = opened_refused buffer refusal read }

  pub line_lent : (line : Bor (List ℕ)) → LineHeld buffer place (Ok line) → length line.now ≤ slot_size
  unfolding LineHolds
  line_lent line held = held.finds.1

  pub line-found : (line : Bor (List ℕ)) → LineHeld buffer place (Ok line) → (out : List ℕ) → out ≡ splice (replicate line_size 0) 0 line.now
      → line_back 0 out (length line.now) ≡ line_call buffer place
  unfolding LineHolds
  line-found line held out put =
      ap (λ o. line_back 0 o (length line.now)) put ∙ line_handed_out line.now ∙ ap (handing 0) held.finds.0
      ∙ sym (line_handed buffer place held.finds.2)

  pub line_refuses : (refusal : Refusal) → LineHeld buffer place (Err refusal)
      → line_back (refusal_number refusal) (replicate line_size 0) 0 ≡ line_call buffer place
  unfolding LineHolds handing
  line_refuses refusal held =
      ap (λ k. line_back (refusal_number k) (replicate line_size 0) 0) held.finds.0 ∙ sym (line_refused buffer place held.finds.1)
