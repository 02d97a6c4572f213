-- Laws of what a scan searches. Assumes nothing.
use Rattle.std.specs.Prelude.{Ok, true, false, List, [], ◌≡◌, leb, nat_abs, take, drop}
use Rattle.std.proofs.Common.{sym, ap, ap₂, ◌∙◌, arith, length-drop, take_all, leb-false, leb-true}
use Rattle.std.proofs.Math.Path.{subst}
use Prim.Native.Nat.{ℕ, ◌+◌, ◌-◌, ◌≤◌, ◌<◌, min}
use Rattle.std.proofs.Math.Nat.{min-eq_left, min-eq_right, min-le_right}
use Rattle.std.proofs.Math.ListN.{length}
use Rattle.std.proofs.Math.Seq.{drop-drop, drop-length}
use Rattle.base.specs.Choice.{test_cases}
use Rattle.base.specs.ListLaws.{length_stretch, stretch_front}
use Rattle.store.specs.Clauses.{string_of}
use Rattle.evaluator.specs.Memory.{memory_in}
use Rattle.syntax.specs.Program as Program
use Rattle.syntax.specs.Program.{Direction, forward, backward}
use Rattle.machine.specs.Bounds.{turned-length}
use Rattle.machine.specs.Expressions.{length_in}
use Rattle.machine.specs.Scanning.{restricted, searched_in, turned}
use Rattle.machine.specs.State.{string_at}
use Rattle.decoder.specs.Holds.{searched_place}
use Rattle.decoder.specs.declared.Part.{Part}
use Rattle.values.specs.Numbers.{is_negative}
use Rattle.values.specs.Result.{done, stop, pure}
use Rattle.std.proofs.lemmas.List.{take_min, drop_min}
use Rattle.effects.specs.References.{CopiedFor, Refers, restricted_by, reference_of, turned_reference, stretch_of}
use Rattle.effects.specs.Valued.{Between}
use Rattle.effects.specs.declared.Span.{Span}

-- a stretch is as long as its ends say, and so are the bytes of a span, turned round or not
pub stretch_size : (v : List ℕ) (from to : ℕ) → from ≤ to → to ≤ length v → length (stretch_of v from to) ≡ to - from
stretch_size v from to h k = length_stretch v from (to - from) (omega arith)

pub reference_size : (store : List ℕ) (d : Direction) (at : Span) → Between store at.place at.from at.to → length (turned_reference store d at) ≡ at.to - at.from
reference_size store d at b =
    turned-length d (reference_of store at.place at.from at.to) ∙ stretch_size (string_of store at.place) at.from at.to b.order b.within

-- a piece of it is one of the string
pub stretch_piece : (v : List ℕ) (from to s n : ℕ) → s + n ≤ to - from → take n (drop s (stretch_of v from to)) ≡ take n (drop (from + s) v)
stretch_piece v from to s n i = stretch_front n s (to - from) (drop from v) i ∙ ap (take n) (drop-drop s from v)

-- where the string is as it was, so is the reference
pub reference_same : (store left : List ℕ) (d : Direction) (at : Span) → string_of left at.place ≡ string_of store at.place
    → turned_reference left d at ≡ turned_reference store d at
reference_same store left d at e = ap (λ (v : List ℕ). turned d (stretch_of v at.from at.to)) e

-- a copy is still one, too
pub copied_same : (store left : List ℕ) (at : Span) (copy : List ℕ) (d : Direction) → CopiedFor d store at copy
    → string_of left at.place ≡ string_of store at.place → CopiedFor d left at copy
unfolding CopiedFor
copied_same store left at copy forward c e = tt
copied_same store left at copy backward c e = c ∙ sym (reference_same store left backward at e)

-- a BACKSCAN has one
pub copied_is : (store : List ℕ) (at : Span) (copy : List ℕ) (d : Direction) → d ≡ backward → CopiedFor d store at copy
    → copy ≡ turned_reference store d at
unfolding CopiedFor
copied_is store at copy d e =
    subst (λ (x : Direction). CopiedFor x store at copy → copy ≡ turned_reference store x at) (sym e) (λ c. c)

-- and a stretch of the string lies there
pub between_same : {store left : List ℕ} {place from to : ℕ} → Between store place from to → string_of left place ≡ string_of store place
    → Between left place from to
between_same {to = to} b e =
    record { known = b.known; order = b.order; within = subst (λ (v : List ℕ). to ≤ length v) (sym e) b.within }

-- a string restricted to its first or last n bytes
found-restricted : (d : Direction) (store : List ℕ) (place n : ℕ) (p : Part) → place < 32 → place ≡ searched_place p
    → Refers (Ok (restricted_by d place (min n (length (string_of store place))) (length (string_of store place)))) store p
    (pure (restricted d place n (string_of store place)))
unfolding pure restricted
found-restricted forward store place n p h e =
    let v = string_of store place in
    let most = min n (length v) in
    let whole : most ≡ most - 0 = omega arith in
    record {
      names = e;
      between = record { known = h; order = omega arith; within = min-le_right n (length v) };
      work =
          ap₂ (λ (r b : List ℕ). done (record { place = place; before = []; reference = r; behind = b }) 0)
          (sym (take_min n v) ∙ ap (λ (j : ℕ). take j v) whole) (sym (drop_min n v));
    }
found-restricted backward store place n p h e =
    let v = string_of store place in
    let most = min n (length v) in
    let from : length v - n ≡ length v - most =
    test_cases (λ _. length v - n ≡ length v - most) (leb n (length v))
    (λ q. let k : n ≤ length v = leb-true n (length v) q in ap (λ (j : ℕ). length v - j) (sym (min-eq_left k)))
    (λ q. let k : length v ≤ n = omega (arith, leb-false n (length v) q) in omega (arith, min-eq_right k)) in
    let all : drop (length v - most) v ≡ take (length v - (length v - most)) (drop (length v - most) v) =
    sym (take_all (length v - (length v - most)) (drop (length v - most) v) (omega (arith, length-drop (length v - most) v))) in
    record {
      names = e;
      between = record { known = h; order = omega arith; within = omega arith };
      work =
          ap (λ (j : ℕ). done (record { place = place; before = take j v; reference = drop j v; behind = [] }) 0) from
          ∙ ap₂ (λ (r b : List ℕ). done (record { place = place; before = take (length v - most) v; reference = r; behind = b }) 0) all
          (sym (drop-length v));
    }

-- a statement's reference: the whole string, or its first or last n bytes
module _ (d : Direction) (store state : List ℕ) (place : ℕ) (p : Part) (h : place < 32) (e : place ≡ searched_place p) where
  pub whole_refers : Refers (Ok (restricted_by d place (length (string_of store place)) (length (string_of store place)))) store p
      (searched_in (memory_in store state) d (Program.whole place))
  unfolding searched_in string_at
  whole_refers =
      let v = string_of store place in
      let same : min (length v) (length v) ≡ length v = min-eq_left (omega arith) in
      subst (λ (j : ℕ). Refers (Ok (restricted_by d place j (length v))) store p (pure (restricted d place (length v) v))) same
      (found-restricted d store place (length v) p h e)

  pub first_refers : (n : Program.Length) → is_negative (length_in (memory_in store state) n) ≡ false
      → Refers
      (Ok (restricted_by d place (min (nat_abs (length_in (memory_in store state) n)) (length (string_of store place))) (length (string_of store place))))
      store p (searched_in (memory_in store state) d (Program.first place n))
  unfolding searched_in string_at
  first_refers n q = rw q (found-restricted d store place (nat_abs (length_in (memory_in store state) n)) p h e)

-- a negative length
pub first_stops : (d : Direction) (store state : List ℕ) (place : ℕ) (n : Program.Length)
    → is_negative (length_in (memory_in store state) n) ≡ true → searched_in (memory_in store state) d (Program.first place n) ≡ stop 17
unfolding searched_in
first_stops d store state place n q = rw q
