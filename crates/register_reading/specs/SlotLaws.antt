-- Slots read one after the other: the line of a slot, the lines and keys so far, and what each end of the reading finds. Assumes nothing.
use Rattle.std.specs.Prelude.{Bool, ◌&&◌, ◌≡◌, ℕ, zero, suc, ◌+◌, ◌*◌, ◌-◌, ◌≤◌, ◌<◌, drop, get_or}
use Rattle.std.proofs.Math.Bool.{true, false, cond, and-false}
use Rattle.std.proofs.lemmas.Bool.{false≢true}
use mathlib.Core.List.{List, [], ◌∷◌, ◌++◌, append_assoc, append-nil, map-append}
use Rattle.std.proofs.Math.Path.{refl, sym, ap, ap₂}
use Rattle.std.proofs.Common.{subst, ◌∙◌, add-zero, take-append-drop, drop-drop, drop_at, get_or-drop, length-drop, take_at}
use native.Mathlib.Omega.{arith}
use Rattle.std.proofs.Math.ListN.{length, take, length-append, get_or-append}
use Rattle.std.proofs.Math.Seq.{length-take-le}
use borrow.Author.Tests.{not-true}
use Rattle.std.specs.Prelude.{Option, Some, None, reverse}
use Rattle.std.specs.List.{prefix_len, suffix_len}
use Rattle.std.proofs.lemmas.List.{drop-append-le, get_or_push, length-map, length-reverse, reverse-append, reverse-reverse}
use Rattle.base.specs.Choice.{both_true, both_pass, cond_cases, test_cases}
use Rattle.base.specs.ListLaws.{all_append, all_end, all_inside, stretch_end}
use Rattle.base.specs.Lists.{all, among, is_zero}
use Rattle.cards.specs.Bytes.{is_name_byte}
use Rattle.cards.specs.Cards.{without_blanks}
use Rattle.card_reader.specs.Keys.{key_of}
use Rattle.register.specs.Buffer.{slot_size, text_in, lines_in, slot_cell_keeps, slots_keep}
use Rattle.register.specs.BufferLaws.{cell-form, cell-zeros, text_front, text_read}
use Rattle.register.specs.Line.{contract_of, has_form}
use Rattle.register.specs.LineLaws.{is_text, line_size_lem, line_text}
use Rattle.register.specs.Register.{Lines, most_lines, differ, is_held}
use Rattle.register.specs.RegisterLaws.{differ-more, differ-split}
use Rattle.register_lines.specs.FieldLaws.{contract_size, count_some}
use denote.Enum.Bare.{sameb}
use Rattle.register_lines.specs.contracts.Fields.{the_type}
use Rattle.register_lines.specs.declared.Fields.{Fields}
use Rattle.register_lines.specs.declared.Fields.TheVariants.{Four, Five}
use Rattle.register_lines.specs.Fields.{RunOfBytes, field_count, is_count}
use Rattle.register_reading.specs.KeyLaws.{key-read, keys_hold, none_marked}
use Rattle.register_reading.specs.Reading.{
  SlotsHold,
  Marked,
  KeyNoted,
  Trimmed,
  has_fields,
  key_in,
  keys_of,
  mark_count,
  slot_key,
  slots_hold,
}

-- a slot without the zeros at its end, by its bytes from the last one on
trim_turned : (l : List ℕ) → Trimmed (reverse l) (length l - prefix_len is_zero l)
unfolding all
trim_turned [] = record { inside = omega arith; zeros = refl; last = λ some. absurd (omega arith) }
trim_turned (b ∷ l) =
    let t = trim_turned l in
    let whole = reverse l ++ (b ∷ []) in
    let size : length (reverse l) ≡ length l = length-reverse l in
    let more : length whole ≡ length l + 1 = length-append (reverse l) (b ∷ []) ∙ ap (λ n. n + 1) size in
    subst (λ w. Trimmed w (length (b ∷ l) - prefix_len is_zero (b ∷ l))) (sym (reverse-append (b ∷ []) l))
    (cond_cases (λ n. Trimmed whole (suc (length l) - n)) (is_zero b) {x = 1 + prefix_len is_zero l} {y = 0}
    (λ e.
    let n = length l - prefix_len is_zero l in
    let same : suc (length l) - (1 + prefix_len is_zero l) ≡ n = omega arith in
    let inside : n ≤ length (reverse l) = t.inside in
    rw same (record {
      inside = omega arith;
      zeros = rw drop-append-le (all_append is_zero (drop n (reverse l)) (b ∷ []) t.zeros (both_pass e refl));
      last = λ some. ap is_zero (get_or-append (reverse l) (b ∷ []) 0 (n - 1) (omega arith)) ∙ t.last some;
    }))
    (λ e.
    record {
      inside = omega arith;
      zeros = all_end is_zero whole (suc (length l) - 0) (omega arith);
      last = λ some. ap is_zero (get_or_push (reverse l) b 0 (suc (length l) - 0 - 1) (omega arith)) ∙ e;
    }))

pub trim_lem : (slot : List ℕ) → Trimmed slot (length slot - suffix_len is_zero slot)
trim_lem slot =
    let t = trim_turned (reverse slot) in
    let size : length (reverse slot) ≡ length slot = length-reverse slot in
    subst (λ s. Trimmed s (length slot - suffix_len is_zero slot)) (reverse-reverse slot) (subst (λ n. Trimmed (reverse (reverse slot)) (n - suffix_len is_zero slot)) size t)

-- zeros are zero wherever one looks
zeros-at : (l : List ℕ) → all is_zero l ≡ true → (j : ℕ) → is_zero (get_or l j 0) ≡ true
unfolding all
zeros-at [] a j = refl
zeros-at (b ∷ l) a zero = (both_true (is_zero b) (all is_zero l) a).0
zeros-at (b ∷ l) a (suc j) = zeros-at l (both_true (is_zero b) (all is_zero l) a).1 j

zero_behind : (l : List ℕ) (k i : ℕ) → all is_zero (drop k l) ≡ true → k ≤ i → is_zero (get_or l i 0) ≡ true
zero_behind l k i a h =
    let at : k + (i - k) ≡ i = omega arith in
    ap is_zero (ap (λ n. get_or l n 0) (sym at) ∙ sym (get_or-drop k l (i - k) 0)) ∙ zeros-at (drop k l) a (i - k)

-- the last byte of a line isn't zero
last_some : (line rest : List ℕ) → has_form line ≡ true → is_zero (get_or (line ++ rest) (length line - 1) 0) ≡ false
unfolding is_text
last_some line rest form =
    let some = (line_size_lem line form).0 in
    ap is_zero (get_or-append line rest 0 (length line - 1) (omega arith))
    ∙ not-true (is_zero (get_or line (length line - 1) 0)) (all_inside is_text line 0 (line_text line form) (length line - 1) (omega arith))

-- Slots read up to slot k: the lines so far, with their keys, all marked; what is left to read, and to judge.
pub record SlotsReadTo (fields : Fields) (slots keys : List ℕ) (marks : List Bool) (k : ℕ) : Type 0 where
  pub done : Lines
  pub count : length done ≡ k
  pub few : k ≤ most_lines
  pub lines : lines_in most_lines slots ≡ done ++ lines_in (most_lines - k) (drop (slot_size * k) slots)
  pub keep : slots_keep (has_fields fields) most_lines slots ≡ slots_keep (has_fields fields) (most_lines - k) (drop (slot_size * k) slots)
  pub good : all has_form done ≡ true
  pub different : differ done ≡ true
  pub keyed : keys ≡ keys_of done
  pub marked : Marked keys marks

-- slot k cut off, with those before it read, and what is behind it
pub record SlotNext (fields : Fields) (slots keys : List ℕ) (marks : List Bool) (slot behind : List ℕ) (k : ℕ) : Type 0 where
  pub read : SlotsReadTo fields slots keys marks k
  pub inside : k < most_lines
  pub is : take slot_size (drop (slot_size * k) slots) ≡ slot
  pub first : get_or slots (slot_size * k) 0 ≡ get_or slot 0 0
  pub rest : behind ≡ drop (slot_size * (k + 1)) slots

-- The text of a slot, for lines of a form, whichever it is.
module _ (form : List ℕ → Bool) (has : (line : List ℕ) → form line ≡ true → has_form line ≡ true) (slot : List ℕ) (n : ℕ) (t : Trimmed slot n) where
  -- of a slot that keeps its rule, the line is left
  pub trim_size : slot_cell_keeps form slot ≡ true → n ≡ length (text_in slot)
  trim_size e =
      let line = text_in slot in
      let m = length line in
      let good = has line (cell-form form slot e) in
      let some = (line_size_lem line good).0 in
      let end : is_zero (get_or slot (m - 1) 0) ≡ false =
      ap (λ l. is_zero (get_or l (m - 1) 0)) (sym (text_front slot)) ∙ last_some line (drop m slot) good in
      let high : ¬ (n < m) = λ h. false≢true (sym end ∙ zero_behind slot n (m - 1) t.zeros (omega arith)) in
      let low : ¬ (m < n) = λ h. false≢true (sym (t.last (omega arith)) ∙ zero_behind slot m (n - 1) (cell-zeros form slot e) (omega arith)) in
      omega (arith, high, low)

  pub trim_line : slot_cell_keeps form slot ≡ true → take n slot ≡ text_in slot
  trim_line e =
      ap (take n) (sym (text_front slot)) ∙ take_at (text_in slot) (drop (length (text_in slot)) slot) n (sym (trim_size e))

  -- and where a line is left, it is the slot's
  form-line : form (take n slot) ≡ true → text_in slot ≡ take n slot
  form-line good =
      ap text_in (sym (take-append-drop n slot))
      ∙ text_read (take n slot) (drop n slot) (line_text (take n slot) (has (take n slot) good)) t.zeros

  form_keeps : form (take n slot) ≡ true → slot_cell_keeps form slot ≡ true
  unfolding slot_cell_keeps
  form_keeps good =
      let is = form-line good in
      let size : length (take n slot) ≡ n = length-take-le n slot t.inside in
      both_pass (ap form is ∙ good) (ap (λ k. all is_zero (drop k slot)) (ap length is ∙ size) ∙ t.zeros)

-- whether all bytes from a place on are zero, as the code asks it
pub zeros-behind : (l : List ℕ) (at : ℕ) (r : Bool) → r ≡ all is_zero (take (length l - at) (drop at l)) → all is_zero (drop at l) ≡ r
zeros-behind l at r e = ap (all is_zero) (sym (stretch_end l at (length l - at) refl)) ∙ sym e

-- what a reading finds
found-lines : (keeps : Bool) (held : Lines) (keys : List ℕ) → keeps ≡ true → keys ≡ keys_of held → SlotsHold keeps held keys true
found-lines keeps held keys e keyed = record { told = sym e; keyed = λ _. keyed }

pub found_broken : (keeps : Bool) (held : Lines) (keys : List ℕ) → keeps ≡ false → SlotsHold keeps held keys false
found_broken keeps held keys e = record { told = sym e; keyed = λ is. absurd (false≢true is) }

-- whether there are so many fields
none_counts : (fields : Fields) → is_count fields None ≡ false
unfolding is_count
none_counts Four = refl
none_counts Five = refl

some_counts : (fields n : Fields) → is_count fields (Some n) ≡ sameb the_type n fields
unfolding is_count
some_counts Four Four = refl
some_counts Four Five = refl
some_counts Five Four = refl
some_counts Five Five = refl

-- Slots whose lines should have so many fields.
module _ (fields : Fields) where
  fields-form : (line : List ℕ) → has_fields fields line ≡ true → has_form line ≡ true
  unfolding has_fields
  fields-form line = counted (field_count line) refl
    where
      counted : (count : Option Fields) → field_count line ≡ count → is_count fields count ≡ true → has_form line ≡ true
      counted (Some n) is e = count_some line n is
      counted None is e = absurd (false≢true (sym (none_counts fields) ∙ e))

  pub form_none : (line : List ℕ) → field_count line ≡ None → has_fields fields line ≡ false
  unfolding has_fields
  form_none line e = ap (is_count fields) e ∙ none_counts fields

  pub form_told : (line : List ℕ) (n : Fields) → field_count line ≡ Some n → has_fields fields line ≡ sameb the_type n fields
  unfolding has_fields
  form_told line n e = ap (is_count fields) e ∙ some_counts fields n

  -- the key of a slot, by the form of what stands in it
  module _ (slot : List ℕ) (n : ℕ) (t : Trimmed slot n) where
    pub slot_formless : has_fields fields (take n slot) ≡ false → None ≡ slot_key fields slot
    unfolding slot_key
    slot_formless lacks =
        test_cases (λ k. slot_cell_keeps (has_fields fields) slot ≡ k → None ≡ cond k (Some (key_in (text_in slot))) None) (slot_cell_keeps (has_fields fields) slot)
        (λ keeps _.
        let line = trim_line (has_fields fields) fields-form slot n t keeps in
        absurd (false≢true (sym lacks ∙ ap (has_fields fields) line ∙ cell-form (has_fields fields) slot keeps)))
        (λ _ _. refl) refl

    pub slot-keyed : (contract : ℕ) → RunOfBytes is_name_byte (take n slot) contract → has_fields fields (take n slot) ≡ true
        → Some (key_of (without_blanks (take 8 (take contract (take n slot))))) ≡ slot_key fields slot
    unfolding slot_key
    slot-keyed contract r form =
        let good = fields-form (take n slot) form in
        ap Some (key-read (take n slot) contract good (contract_size (take n slot) contract r good)
        ∙ ap key_in (sym (form-line (has_fields fields) fields-form slot n t form)))
        ∙ sym (ap (λ b. cond b (Some (key_in (text_in slot))) None) (form_keeps (has_fields fields) fields-form slot n t form))

  -- a slot with a key keeps its rule, one without breaks it
  pub key-holds : (slot : List ℕ) (key : ℕ) → slot_key fields slot ≡ Some key
      → (slot_cell_keeps (has_fields fields) slot ≡ true) × (key ≡ key_in (text_in slot))
  unfolding slot_key
  key-holds slot key = holds (slot_cell_keeps (has_fields fields) slot)
    where
      holds : (t : Bool) → cond t (Some (key_in (text_in slot))) None ≡ Some key → (t ≡ true) × (key ≡ key_in (text_in slot))
      holds true e = (refl, cc)
      holds false e = cc

  pub key_lacks : (slot : List ℕ) → slot_key fields slot ≡ None → slot_cell_keeps (has_fields fields) slot ≡ false
  unfolding slot_key
  key_lacks slot = lacks (slot_cell_keeps (has_fields fields) slot)
    where
      lacks : (t : Bool) → cond t (Some (key_in (text_in slot))) None ≡ None → t ≡ false
      lacks true e = cc
      lacks false e = refl

  pub read_none : (slots keys : List ℕ) (marks : List Bool) → keys ≡ [] → length marks ≡ mark_count → SlotsReadTo fields slots keys marks 0
  unfolding all differ
  read_none slots keys marks none marked =
      record {
        done = [];
        count = refl;
        few = omega arith;
        lines = refl;
        keep = refl;
        good = refl;
        different = refl;
        keyed = none;
        marked = none_marked keys marks none marked;
      }

  -- one slot of several
  lines_end : (n : ℕ) (l : List ℕ) → is_zero (get_or l 0 0) ≡ true → lines_in (suc n) l ≡ []
  unfolding lines_in
  lines_end n l z = rw (lines_in, z)

  keep_end : (n : ℕ) (l : List ℕ) → is_zero (get_or l 0 0) ≡ true → slots_keep (has_fields fields) (suc n) l ≡ all is_zero l
  unfolding slots_keep
  keep_end n l z = rw (slots_keep, z)

  lines-first : (n : ℕ) (l : List ℕ) → is_zero (get_or l 0 0) ≡ false → lines_in (suc n) l ≡ text_in (take slot_size l) ∷ lines_in n (drop slot_size l)
  unfolding lines_in
  lines-first n l z = rw (lines_in, z)

  keep-first : (n : ℕ) (l : List ℕ) → is_zero (get_or l 0 0) ≡ false
      → slots_keep (has_fields fields) (suc n) l ≡ (slot_cell_keeps (has_fields fields) (take slot_size l) && slots_keep (has_fields fields) n (drop slot_size l))
  unfolding slots_keep
  keep-first n l z = rw (slots_keep, z)

  -- slot k, and those behind it
  module _ (slots : List ℕ) (k : ℕ) (h : k < most_lines) where
    abbrev here : List ℕ
    here = drop (slot_size * k) slots

    abbrev next : List ℕ
    next = drop (slot_size * (k + 1)) slots

    left : most_lines - k ≡ suc (most_lines - (k + 1))
    left = omega arith

    first-is : get_or here 0 0 ≡ get_or slots (slot_size * k) 0
    first-is = get_or-drop (slot_size * k) slots 0 0 ∙ ap (λ n. get_or slots n 0) (add-zero (slot_size * k))

    next-is : drop slot_size here ≡ next
    next-is =
        let at : slot_size * k + slot_size ≡ slot_size * (k + 1) = omega arith in
        drop-drop slot_size (slot_size * k) slots ∙ ap (λ n. drop n slots) at

    module _ (z : is_zero (get_or slots (slot_size * k) 0) ≡ true) where
      lines_stop : lines_in (most_lines - k) here ≡ []
      lines_stop = ap (λ n. lines_in n here) left ∙ lines_end (most_lines - (k + 1)) here (ap is_zero first-is ∙ z)

      keep_stop : slots_keep (has_fields fields) (most_lines - k) here ≡ all is_zero here
      keep_stop = ap (λ n. slots_keep (has_fields fields) n here) left ∙ keep_end (most_lines - (k + 1)) here (ap is_zero first-is ∙ z)

    module _ (z : is_zero (get_or slots (slot_size * k) 0) ≡ false) where
      lines_more : lines_in (most_lines - k) here ≡ text_in (take slot_size here) ∷ lines_in (most_lines - (k + 1)) next
      lines_more =
          ap (λ n. lines_in n here) left
          ∙ lines-first (most_lines - (k + 1)) here (ap is_zero first-is ∙ z)
          ∙ ap (λ l. text_in (take slot_size here) ∷ lines_in (most_lines - (k + 1)) l) next-is

      keep-more : slots_keep (has_fields fields) (most_lines - k) here ≡
          (slot_cell_keeps (has_fields fields) (take slot_size here) && slots_keep (has_fields fields) (most_lines - (k + 1)) next)
      keep-more =
          ap (λ n. slots_keep (has_fields fields) n here) left
          ∙ keep-first (most_lines - (k + 1)) here (ap is_zero first-is ∙ z)
          ∙ ap (λ l. slot_cell_keeps (has_fields fields) (take slot_size here) && slots_keep (has_fields fields) (most_lines - (k + 1)) l) next-is

  -- slot k as the loop has it, the front of what is left
  pub slot_next : (slots keys : List ℕ) (marks : List Bool) (left slot behind : List ℕ) (k n : ℕ) → SlotsReadTo fields slots keys marks n
      → left ≡ drop (slot_size * n) slots
      → length slots ≡ slot_size * most_lines → k ≡ n → left ≡ slot ++ behind → length slot ≡ slot_size
      → SlotNext fields slots keys marks slot behind k
  slot_next slots keys marks left slot behind k n r e whole same cut size =
      let at : drop (slot_size * k) slots ≡ slot ++ behind = ap (λ m. drop (slot_size * m) slots) same ∙ sym e ∙ cut in
      let h : k < most_lines = omega (arith, whole, length-drop (slot_size * k) slots, ap length at, length-append slot behind, size) in
      record {
        read = subst (SlotsReadTo fields slots keys marks) (sym same) r;
        inside = h;
        is = ap (take slot_size) at ∙ take_at slot behind slot_size size;
        first = sym (first-is slots k h) ∙ ap (λ l. get_or l 0 0) at ∙ get_or-append slot behind 0 0 (omega (arith, size));
        rest = sym (drop_at slot behind slot_size size) ∙ ap (drop slot_size) (sym at) ∙ next-is slots k h;
      }

  -- The reading at slot k: it ends, breaks off or goes on.
  module _ (slots keys : List ℕ) (marks : List Bool) (k : ℕ) (r : SlotsReadTo fields slots keys marks k) where
    pub slots_noted : length keys ≡ k
    slots_noted = ap length r.keyed ∙ length-map r.done key_in ∙ r.count

    -- all slots are read
    pub read_all : k ≡ most_lines → SlotsHold (slots_hold fields slots) (lines_in most_lines slots) keys true
    unfolding slots_hold lines_in slots_keep
    read_all full =
        let none : most_lines - k ≡ 0 = omega arith in
        let lines : lines_in most_lines slots ≡ r.done =
        r.lines ∙ ap (λ n. r.done ++ lines_in n (drop (slot_size * k) slots)) none ∙ append-nil r.done in
        let keep : slots_keep (has_fields fields) most_lines slots ≡ true = r.keep ∙ ap
        (λ n. slots_keep (has_fields fields) n (drop (slot_size * k) slots)) none in
        found-lines (slots_hold fields slots) (lines_in most_lines slots) keys
        (both_pass keep (ap differ lines ∙ r.different)) (r.keyed ∙ sym (ap keys_of lines))

    module _ (h : k < most_lines) where
      -- slot k is empty
      module _ (z : is_zero (get_or slots (slot_size * k) 0) ≡ true) where
        ended_lines : lines_in most_lines slots ≡ r.done
        ended_lines = r.lines ∙ ap (λ l. r.done ++ l) (lines_stop slots k h z) ∙ append-nil r.done

        ended_keep : slots_keep (has_fields fields) most_lines slots ≡ all is_zero (drop (slot_size * k) slots)
        ended_keep = r.keep ∙ keep_stop slots k h z

        pub read_ends : (t : Bool) → t ≡ all is_zero (drop (slot_size * k) slots)
            → SlotsHold (slots_hold fields slots) (lines_in most_lines slots) keys t
        unfolding slots_hold
        read_ends true e =
            found-lines (slots_hold fields slots) (lines_in most_lines slots) keys
            (both_pass (ended_keep ∙ sym e) (ap differ ended_lines ∙ r.different)) (r.keyed ∙ sym (ap keys_of ended_lines))
        read_ends false e =
            found_broken (slots_hold fields slots) (lines_in most_lines slots) keys
            (ap (λ b. b && differ (lines_in most_lines slots)) (ended_keep ∙ sym e))

      -- slot k has a line
      module _ (z : is_zero (get_or slots (slot_size * k) 0) ≡ false) where
        abbrev slot : List ℕ
        slot = take slot_size (drop (slot_size * k) slots)

        pub read_bad : slot_key fields slot ≡ None → SlotsHold (slots_hold fields slots) (lines_in most_lines slots) keys false
        unfolding slots_hold
        read_bad none =
            let lacks = key_lacks slot none in
            found_broken (slots_hold fields slots) (lines_in most_lines slots) keys
            (ap (λ b. b && differ (lines_in most_lines slots))
            (r.keep ∙ keep-more slots k h z ∙ ap (λ b. b && slots_keep (has_fields fields) (most_lines - (k + 1))
            (drop (slot_size * (k + 1)) slots)) lacks))

        module _ (key : ℕ) (is : slot_key fields slot ≡ Some key) where
          abbrev line : List ℕ
          line = text_in slot

          abbrev rest : Lines
          rest = lines_in (most_lines - (k + 1)) (drop (slot_size * (k + 1)) slots)

          holds-slot : (slot_cell_keeps (has_fields fields) slot ≡ true) × (key ≡ key_in line)
          holds-slot = key-holds slot key is

          form : has_form line ≡ true
          form = fields-form line (cell-form (has_fields fields) slot holds-slot.0)

          all_lines : lines_in most_lines slots ≡ r.done ++ (line ∷ rest)
          all_lines = r.lines ∙ ap (λ l. r.done ++ l) (lines_more slots k h z)

          -- whether the contract is held is whether its key is among those noted
          held-is : among key keys ≡ is_held r.done (contract_of line)
          held-is =
              ap₂ {C = Bool} among holds-slot.1 r.keyed ∙ keys_hold r.done line r.good form

          pub read_twice : (keys' : List ℕ) → among key keys ≡ true → SlotsHold (slots_hold fields slots) (lines_in most_lines slots) keys' false
          unfolding slots_hold
          read_twice keys' found =
              let same : differ (lines_in most_lines slots) ≡ false =
              test_cases (λ t. differ (lines_in most_lines slots) ≡ t → t ≡ false) (differ (lines_in most_lines slots))
              (λ e _.
              let apart = differ-split r.done line rest (sym (ap differ all_lines) ∙ e) in
              absurd (false≢true (sym apart ∙ (sym held-is ∙ found))))
              (λ _ _. refl) refl in
              found_broken (slots_hold fields slots) (lines_in most_lines slots) keys'
              (ap (λ b. slots_keep (has_fields fields) most_lines slots && b) same ∙ and-false (slots_keep (has_fields fields) most_lines slots))

          pub read_more : (keys' : List ℕ) (marks' : List Bool) → KeyNoted keys key true keys' marks' → SlotsReadTo fields slots keys' marks' (k + 1)
          unfolding all
          read_more keys' marks' noted =
              let fresh = not-true (among key keys) (sym noted.new) in
              record {
                done = r.done ++ (line ∷ []);
                count = omega (arith, length-append r.done (line ∷ []), r.count);
                few = omega arith;
                lines = all_lines ∙ sym (append_assoc r.done (line ∷ []) rest);
                keep =
                    r.keep
                    ∙ keep-more slots k h z
                    ∙ ap (λ b. b && slots_keep (has_fields fields) (most_lines - (k + 1)) (drop (slot_size * (k + 1)) slots)) holds-slot.0;
                good = all_append has_form r.done (line ∷ []) r.good (both_pass form refl);
                different = differ-more r.done line r.different (sym held-is ∙ fresh);
                keyed =
                    noted.kept refl
                    ∙ ap₂ {C = List ℕ} (λ l x. l ++ (x ∷ [])) r.keyed holds-slot.1
                    ∙ sym (map-append key_in r.done (line ∷ []));
                marked = noted.marked refl;
              }
