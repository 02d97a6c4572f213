-- Laws of what statements leave: a record read, a record put, a stretch of a string set. Assumes nothing.
use Rattle.std.specs.Prelude.{Option, Some, None, nat_abs, true, ◌≡◌, leb, ℤ}
use Rattle.std.proofs.lemmas.List.{drop_min}
use Rattle.std.proofs.Math.Bool.{false, ◌||◌}
use mathlib.Core.List.{List, [], ◌∷◌, ◌++◌}
use Rattle.std.proofs.Math.Path.{refl, sym, ap, ap₂, subst}
use Rattle.std.proofs.Common.{◌∙◌, take-take}
use Prim.Native.Nat.{ℕ, ◌+◌, ◌*◌, ◌-◌, ◌≤◌, ◌<◌, min}
use Rattle.std.proofs.Math.Nat.{add-zero, min-eq_left, min-eq_right, min-le_left, min-le_right}
use native.Mathlib.Omega.{arith}
use Rattle.std.proofs.Math.Dec.{eqb}
use Rattle.std.proofs.Math.ListN.{length, take, drop, set, length-append, length-drop, length-take}
use Rattle.std.proofs.Math.Seq.{drop-drop, length-take-le, take_all}
use borrow.Author.Tests.{eq-eqb, ne_eqb, le-leb, lt-leb, leb-true, leb-false}
use Rattle.base.specs.Choice.{test_cases, true_behind}
use Rattle.base.specs.ListLaws.{nil_length, not_nil}
use Rattle.base.specs.Lists.{is_nil}
use Rattle.encoding.specs.BufferLaws.{StoreGood, good_image, good_short, store_with, with_good, with-splice, with-strings, length-image}
use Rattle.encoding.specs.Buffers.{cell_image, store_image, store_size, strings_in}
use Rattle.encoding.specs.Splices.{splice, behind-splice, length-splice, take-written}
use Rattle.cards.specs.Bytes.{newline}
use Rattle.store.specs.Clauses.{string_of, string_replaced}
use Rattle.numbers.specs.Numbers.{GivesInt, GivesNatural}
use Rattle.numbers.specs.declared.Int.{Int}
use Rattle.machine.specs.Scanning.{storing}
use Rattle.machine.specs.State.{State, going_to, with_input, with_output, with_string}
use Rattle.machine.specs.Step.{chosen, put_record, record_length, Taken, take_record}
use Rattle.values.specs.Conversion.{longest_string}
use Rattle.values.specs.Numbers.{is_negative}
use Rattle.values.specs.Result.{done, stop, with_notes, pure}
use Rattle.std.specs.Option.{ok_or}
use Rattle.values.specs.declared.Stop.TheVariants.{NegativeLength}
use Rattle.effects.specs.Leaving.{memory_of, Asks, StoreStays, Taking, RecordTaken, Wrote, Full, Setting, BufferSpells}

-- how many bytes are asked for by the number that the code has for a length
pub asks-natural : (r : Option ℕ) {z : Int} {n : ℤ} → GivesInt z n → GivesNatural r z.value → Asks (ok_or r NegativeLength) n
asks-natural None g e = (ap is_negative (sym g.value) ∙ e, refl)
asks-natural (Some k) g e = (ap is_negative (sym g.value) ∙ e.0, e.1 ∙ ap nat_abs g.value)

-- a store that nothing is written to
pub stays_same : (store : List ℕ) → StoreGood store → StoreStays store store
stays_same store g = record { good = g; size = refl; rest = refl }

-- a store with a string set
pub stays_with : (store : List ℕ) → StoreGood store → (s : ℕ) → s < 32 → (v : List ℕ) → length v ≤ 1024 → StoreStays store (store_with store s v)
stays_with store g s h v k =
    let cell = cell_image v in
    let wide : length cell ≡ 1026 = length-image v k in
    let at = 1026 * s in
    let one = with-splice store g s v k h in
    let inside : at + length cell ≤ store_size = omega arith in
    let behind : (l : List ℕ) → drop store_size l ≡ drop (store_size - (at + length cell)) (drop (at + length cell) l) =
    λ l.
    let place : at + length cell + (store_size - (at + length cell)) ≡ store_size = omega arith in
    sym (drop-drop (store_size - (at + length cell)) (at + length cell) l ∙ ap (λ (n : ℕ). drop n l) place) in
    record {
      good = with_good store g s v k;
      size = ap length one ∙ length-splice store at cell (omega (arith, g.size));
      rest =
          ap (drop store_size) one
          ∙ behind (splice store at cell)
          ∙ ap (drop (store_size - (at + length cell))) (behind-splice store at cell (omega (arith, g.size)))
          ∙ sym (behind store);
    }

-- a store left is the image of its strings, with the bytes that stayed behind them
pub left_is : (store left : List ℕ) → StoreStays store left → store_image (strings_in left) ++ drop store_size store ≡ left
left_is store left s = ap (λ (l : List ℕ). store_image (strings_in left) ++ l) (sym s.rest) ∙ good_image left s.good

-- a machine at another step, with other strings and another input left
abbrev moved : State → ℕ → List (List ℕ) → List ℕ → State
moved c next strings input =
    record {
      status = c.status;
      next = next;
      returns = c.returns;
      memory = record { strings = strings; numbers = c.memory.numbers };
      input = input;
      output = c.output;
    }

-- the first bytes of a record, and what lies behind a record that may end the input
pub take-least : (l : List ℕ) (a n : ℕ) → take a (take n l) ≡ take (min n a) l
take-least l a n =
    test_cases (λ _. take a (take n l) ≡ take (min n a) l) (leb a n)
    (λ e.
    let h : a ≤ n = leb-true a n e in
    take-take a n l h ∙ ap (λ (j : ℕ). take j l) (sym (min-eq_right h)))
    (λ e.
    let h : n ≤ a = omega (arith, leb-false a n e) in
    take_all a (take n l) (simp length-take (omega (arith, min-le_left n (length l))))
    ∙ ap (λ (j : ℕ). take j l) (sym (min-eq_left h)))

is_nil_lem : (l : List ℕ) → length l ≡ 0 → is_nil l ≡ true
is_nil_lem l h = nil_length l ∙ eq-eqb (length l) 0 h

-- no record is read
took_none : (store input : List ℕ) (place most from : ℕ) → Taking store place input from
    → (eqb most 0 || is_nil (drop from input)) ≡ true → RecordTaken store store input place most from None 0
unfolding take_record going_to with_input chosen
took_none store input place most from t none = (
  refl,
  refl,
  record {
    stays = stays_same store t.good;
    inside = t.inside;
    work =
        λ b c p q.
        let test : (eqb most 0 || is_nil c.input) ≡ true = ap (λ (l : List ℕ). eqb most 0 || is_nil l) q ∙ none in
        let left : List (List ℕ) → List ℕ → Taken = λ s l. record { state = moved c b.failure s l; dropped = 0 } in
        let one : take_record place most b c ≡ left c.memory.strings c.input = rw test in
        one ∙ ap₂ left p q;
  },
)

-- none is asked for, or none is left
pub none_asked : (store input : List ℕ) (place most from : ℕ) → Taking store place input from → most ≡ 0
    → RecordTaken store store input place most from None 0
none_asked store input place most from t e =
    took_none store input place most from t (ap (λ x. x || is_nil (drop from input)) (eq-eqb most 0 e))

pub none_left : (store input : List ℕ) (place most from : ℕ) → Taking store place input from → length input - from ≡ 0
    → RecordTaken store store input place most from None 0
none_left store input place most from t e =
    took_none store input place most from t
    (true_behind (eqb most 0) (is_nil (drop from input)) (is_nil_lem (drop from input) (length-drop from input ∙ e)))

module _ (store input : List ℕ) (place most from : ℕ) (t : Taking store place input from) (asks : 0 < most) (more : from < length input) where
  -- a record is read
  pub took_some : (n : ℕ) → n ≡ record_length (drop from input) → (left : List ℕ)
      → left ≡ store_with store place (take (min n (min most 1024)) (drop from input))
      → n ≤ length input - from
      → RecordTaken store left input place most from (Some (from + min (n + 1) (length input - from))) (n - min most 1024)
  unfolding take_record going_to with_input with_string chosen longest_string
  took_some n e left is within =
      let r = drop from input in
      let to = from + min (n + 1) (length input - from) in
      let size : length r ≡ length input - from = length-drop from input in
      let room = min most 1024 in
      let v = take (min n room) r in
      let short : length v ≤ 1024 =
      simp length-take
      (omega (arith, min-le_left (min n (min most 1024)) (length r), min-le_right n (min most 1024), min-le_right most 1024)) in
      let far : from < to =
      test_cases (λ _. from < to) (leb (n + 1) (length input - from))
      (λ h. let w : n + 1 ≤ length input - from = leb-true _ _ h in omega (arith, min-eq_left w))
      (λ h. let w : length input - from ≤ n + 1 = omega (arith, leb-false (n + 1) (length input - from) h) in omega (arith, min-eq_right w)) in
      let strings : set (strings_in store) place v ≡ strings_in left =
      sym (ap strings_in is ∙ with-strings store t.good place v short) in
      let rest : drop (n + 1) r ≡ drop to input =
      sym (drop_min (n + 1) r)
      ∙ ap (λ (j : ℕ). drop (min (n + 1) j) r) size
      ∙ drop-drop (min (n + 1) (length input - from)) from input in
      let size_cut : length (drop room (take n r)) ≡ n - room =
      length-drop room (take n r) ∙ ap (λ (j : ℕ). j - room) (length-take-le n r (omega (arith, size))) in
      let some : (eqb most 0 || is_nil r) ≡ false =
      ap₂ ◌||◌ (ne_eqb most 0 (λ z. omega arith)) (not_nil r (omega arith)) in (
        far,
        record {
          stays = subst (StoreStays store) (sym is) (stays_with store t.good place t.known v short);
          inside = omega (arith, min-le_right (n + 1) (length input - from));
          work =
              λ b c p q.
              let left_with : List (List ℕ) → List ℕ → ℕ → Taken = λ ss l d. record { state = moved c b.success ss l; dropped = d } in
              let read_of : ℕ → List (List ℕ) → List ℕ → Taken =
              λ j ss l. left_with (set ss place (take room (take j l))) (drop (j + 1) l) (length (drop room (take j l))) in
              let test : (eqb most 0 || is_nil c.input) ≡ false = ap (λ (l : List ℕ). eqb most 0 || is_nil l) q ∙ some in
              let one : take_record place most b c ≡ read_of (record_length c.input) c.memory.strings c.input = rw test in
              let first : take room (take n r) ≡ v = take-least r room n in
              let two : read_of n (strings_in store) r ≡ left_with (set (strings_in store) place v) (drop to input) (n - room) =
              λ i. left_with (set (strings_in store) place (first i)) (rest i) (size_cut i) in
              one
              ∙ ap₂ (λ ss l. read_of (record_length l) ss l) p q
              ∙ ap (λ (j : ℕ). read_of j (strings_in store) r) (sym e)
              ∙ two
              ∙ ap (λ (ss : List (List ℕ)). left_with ss (drop to input) (n - room)) strings;
        },
      )

-- a null record
pub wrote_none : (bytes : List ℕ) (at : ℕ) (v : List ℕ) → at ≤ length bytes → length v ≡ 0 → Wrote bytes bytes at at v
unfolding put_record with_output pure
wrote_none bytes at v h e =
    record {
      size = refl;
      order = omega arith;
      inside = h;
      rest = refl;
      work =
          λ c q.
          let one : put_record (length bytes) v c ≡ done c 0 = rw (is_nil_lem v e) in
          one ∙ ap (λ (o : List ℕ). done (with_output o c) 0) q;
    }

module _ (bytes : List ℕ) (at : ℕ) (v : List ℕ) (h : at ≤ length bytes) (some : 0 < length v) where
  -- a record that there is no room for
  pub no_room : length bytes - at ≤ length v → Full bytes bytes at 21 v
  unfolding put_record
  no_room k =
      record {
        same = refl;
        work =
            λ c q.
            let size : length c.output ≡ at = ap length q ∙ length-take-le at bytes h in
            let over : length bytes < length c.output + (length v + 1) = omega arith in
            rw (not_nil v some, lt-leb _ _ over);
      }

  -- a record put
  pub wrote_some : length v < length bytes - at → (left : List ℕ) → left ≡ splice bytes at (v ++ (10 ∷ []))
      → Wrote bytes left at (at + length v + 1) v
  unfolding put_record with_output pure newline
  wrote_some k left whole =
      let x = v ++ (10 ∷ []) in
      let size : length x ≡ length v + 1 = length-append v (10 ∷ []) in
      let to : at + length x ≡ at + length v + 1 = omega arith in
      record {
        size = ap length whole ∙ length-splice bytes at x (omega arith);
        order = omega arith;
        inside = omega arith;
        rest =
            ap (drop (at + length v + 1)) whole
            ∙ ap (λ (n : ℕ). drop n (splice bytes at x)) (sym to)
            ∙ behind-splice bytes at x h
            ∙ ap (λ (n : ℕ). drop n bytes) to;
        work =
            λ c q.
            let room : length c.output + (length v + 1) ≤ length bytes = omega (arith, ap length q, length-take-le at bytes h) in
            let written : take at bytes ++ x ≡ take (at + length v + 1) left =
            sym (take-written bytes at x h) ∙ ap (λ (n : ℕ). take n (splice bytes at x)) to ∙ ap (take (at + length v + 1)) (sym whole) in
            let one : put_record (length bytes) v c ≡ done (with_output (c.output ++ x) c) 0 = rw (not_nil v some, le-leb _ _ room) in
            one
            ∙ ap (λ (o : List ℕ). done (with_output o c) 0) (ap (λ (o : List ℕ). o ++ x) q ∙ written);
      }

module _ (store : List ℕ) (place from to : ℕ) (v : List ℕ) (s : Setting store place from to v) (n notes : ℕ)
    (value : List ℕ) (numbers : List ℤ) (p : BufferSpells v n value) where
  new_length : length (string_replaced (string_of store place) from to value) ≡ from + (n + (length (string_of store place) - to))
  new_length =
      simp (length-append, length-drop, length-take-le from (string_of store place) (omega (arith, s.order, s.within)))
      (omega (arith, p.size))

  -- a string too long to be stored
  pub sets_none : 1024 - (length (string_of store place) - (to - from)) < n
      → with_notes notes (storing place (string_replaced (string_of store place) from to value) (memory_of store numbers)) ≡ stop 20
  unfolding storing longest_string with_notes
  sets_none h =
      let long : 1024 < length (string_replaced (string_of store place) from to value) =
      omega (arith, new_length, good_short store s.good place, s.order, s.within) in
      rw (lt-leb _ _ long)

  -- one that is stored
  pub sets_some : n ≤ 1024 - (length (string_of store place) - (to - from)) → (left : List ℕ)
      → left ≡ store_with store place (string_replaced (string_of store place) from to (take n v))
      → StoreStays store left
      × (with_notes notes (storing place (string_replaced (string_of store place) from to value) (memory_of store numbers))
      ≡ done (memory_of left numbers) notes)
  unfolding storing longest_string with_notes pure with_string
  sets_some h left e =
      let new = string_replaced (string_of store place) from to value in
      let few : length (string_of store place) ≤ 1024 = good_short store s.good place in
      let short : length new ≤ 1024 = omega (arith, new_length, s.order, s.within) in
      let same : take n v ≡ value = p.bytes ∙ take_all 1024 value (omega (arith, p.size)) in
      let is : left ≡ store_with store place new = e ∙ ap (λ (w : List ℕ). store_with store place (string_replaced (string_of store place) from to w)) same in
      let strings : set (strings_in store) place new ≡ strings_in left = sym (ap strings_in is ∙ with-strings store s.good place new short) in (
        subst (StoreStays store) (sym is) (stays_with store s.good place s.known new short),
        rw (le-leb (length new) 1024 short, add-zero notes) refl
            ∙ ap (λ (ss : List (List ℕ)). done (record { strings = ss; numbers = numbers }) notes) strings,
      )
