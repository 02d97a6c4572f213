-- What the code's loops and branches do, in the words of the tests: an element, an item and a step more, or none left. Assumes nothing.
use Rattle.std.specs.Prelude.{Bool, true, false, cond, ◌&&◌, List, ◌≡◌, ℕ, suc, ◌+◌, ◌*◌, ◌-◌, ◌≤◌, ◌<◌, leb, eqb, Option, Some, None, option_and_then}
use Rattle.std.proofs.Math.Path.{refl}
use Rattle.std.proofs.Common.{sym, ◌∙◌, ap, arith}
use borrow.Author.Tests.{leb-true, le-leb}
use Rattle.base.specs.Choice.{cond_cases}
use Rattle.encoding.specs.Kinds.{Righting}
use Rattle.encoding.specs.Table.{Cell, Row, steps_at, elements_at, items_at}
use Rattle.encoding.specs.TableReading.{cell_at, read_row_at}
use Rattle.encoding.specs.declared.cells.Counts.{Counts}
use Rattle.verifier.specs.CellTests.{cell_test}
use Rattle.verifier.specs.Asked.{RowAsks, row_asked}
use Rattle.verifier.specs.Conjunctions.{seven}
use Rattle.verifier.specs.Elements.{element_end, elements_end}
use Rattle.verifier.specs.Items.{item_used, item_test, item_end, items_end, item_tests}
use Rattle.verifier.specs.Rights.{stretches_tests}
use Rattle.verifier.specs.Tests.{last_kind, waiting_left, pattern_test, places}
use Rattle.verifier.specs.Tests.{FewCounts, PlacesRoom, StretchesInside, stretches_of, start_test, stretches_test, row_test, cells_end, step_test, row_end, places_behind_step, steps_end, counts_test, literals_end}
use Rattle.verifier.specs.declared.steps.Places.{Places}
use Rattle.verifier.specs.declared.steps.Stretches.{Stretches}

-- a walk from a place on, over so many places, each of which makes something of what was made so far, or stops it
pub record Walks {A : Type 0} (single : ℕ → A → Option A) (walk : ℕ → A → ℕ → Option A) : Type 0 where
  pub none : (k : ℕ) (a : A) → walk k a 0 ≡ Some a
  pub next : (k m : ℕ) (a : A) → walk k a (suc m) ≡ option_and_then (λ b. walk (k + 1) b m) (single k a)

-- up to an end: no place yet, a place more, one that stops it, and none left
module _ {A : Type 0} {single : ℕ → A → Option A} {walk : ℕ → A → ℕ → Option A} (w : Walks single walk) (end : ℕ) where
  pub walk_start : (k count : ℕ) (a : A) → count ≡ end - k → walk k a count ≡ walk k a (end - k)
  walk_start k count a e = ap (walk k a) e

  one_more : (k : ℕ) (a : A) (o : Option A) {x : Option A} → x ≡ walk k a (end - k) → k < end → o ≡ single k a
      → x ≡ option_and_then (λ b. walk (k + 1) b (end - (k + 1))) o
  one_more k a o same h e =
      let size : end - k ≡ suc (end - (k + 1)) = omega arith in
      same ∙ ap (walk k a) size ∙ w.next k (end - (k + 1)) a ∙ ap (option_and_then (λ b. walk (k + 1) b (end - (k + 1)))) (sym e)

  pub walk_more : (k : ℕ) (a b : A) {x : Option A} → x ≡ walk k a (end - k) → k < end → Some b ≡ single k a
      → x ≡ walk (k + 1) b (end - (k + 1))
  walk_more k a b same h e = one_more k a (Some b) same h e

  pub walk_stops : (k : ℕ) (a : A) {x : Option A} → x ≡ walk k a (end - k) → k < end → None ≡ single k a → None ≡ x
  walk_stops k a same h e = sym (one_more k a None same h e)

  pub walk_done : (k : ℕ) (a : A) {x : Option A} → x ≡ walk k a (end - k) → end ≤ k → Some a ≡ x
  walk_done k a same h = let size : end - k ≡ 0 = omega arith in sym (same ∙ ap (walk k a) size ∙ w.none k a)

-- a program of so many strings, numbers and steps
module _ (strings numbers steps : ℕ) where
  pub elements_walk : (high : ℕ) (t : List ℕ)
      → Walks (λ k at. element_end strings numbers steps high at (cell_at t (elements_at + 8 * k))) (λ k at m. elements_end strings numbers steps high t k at m)
  unfolding elements_end
  elements_walk high t = record { none = λ k at. refl; next = λ k m at. refl }

  -- an item that finds too few or leaves too many, or holds
  pub item_other : (known : ℕ) (c : Cell) → cell_test strings numbers 16 63 c ≡ false → item_end strings numbers steps known c ≡ None
  unfolding item_end item_test
  item_other known c h = rw h

  pub item_few : (known : ℕ) (c : Cell) → known < item_used c.kind → item_end strings numbers steps known c ≡ None
  unfolding item_end
  item_few known c h =
      cond_cases (λ (x : Option ℕ). x ≡ None) (item_test strings numbers steps known c)
      (λ g. absurd (omega (arith, (item_tests strings numbers steps known c g).1))) (λ g. refl)

  pub item_many : (known : ℕ) (c : Cell) → 64 < known + 1 - item_used c.kind → item_end strings numbers steps known c ≡ None
  unfolding item_end
  item_many known c h =
      cond_cases (λ (x : Option ℕ). x ≡ None) (item_test strings numbers steps known c)
      (λ g. absurd (omega (arith, (item_tests strings numbers steps known c g).2))) (λ g. refl)

  pub item_holds_lem : (known : ℕ) (c : Cell) → cell_test strings numbers 16 63 c ≡ true → item_used c.kind ≤ known
      → known + 1 - item_used c.kind ≤ 64 → item_end strings numbers steps known c ≡ Some (known + 1 - item_used c.kind)
  unfolding item_end item_test
  item_holds_lem known c h low high = rw (h, le-leb (item_used c.kind) known low, le-leb (known + 1 - item_used c.kind) 64 high)

  pub items_walk : (t : List ℕ)
      → Walks (λ k known. item_end strings numbers steps known (cell_at t (items_at + 8 * k))) (λ k known m. items_end strings numbers steps t k known m)
  unfolding items_end
  items_walk t = record { none = λ k known. refl; next = λ k m known. refl }

module _ (n : Counts) where
  pub steps_walk : (t : List ℕ) → Walks (λ k p. places_behind_step n t k p) (λ k p m. steps_end n t k p m)
  unfolding steps_end
  steps_walk t = record { none = λ k p. refl; next = λ k m p. refl }

  -- the place behind both stretches of elements, by that behind the first
  pub literals_told : (t : List ℕ) (p : Places) (high : ℕ) (s : Stretches) (o : Option ℕ)
      → o ≡ elements_end n.strings n.numbers n.steps high t p.elements p.literals s.first
      → option_and_then (λ middle. elements_end n.strings n.numbers n.steps 95 t (p.elements + s.first) middle s.more) o ≡ literals_end n t p high s
  unfolding literals_end
  literals_told t p high s o reads = rw (← reads)

  -- the places behind a row's cells, by the numbers that its items leave, the roles of its pattern, and the place behind its elements
  module _ (t : List ℕ) (p : Places) (right : Righting) (r : ℕ) (s : Stretches) where
    pub items_stop : None ≡ items_end n.strings n.numbers n.steps t p.items 0 s.items → None ≡ cells_end n t p right r s
    unfolding cells_end
    items_stop reads = rw (← reads)

    module _ (known : ℕ) {left : ℕ} {roles : Bool} (reads : Some known ≡ items_end n.strings n.numbers n.steps t p.items 0 s.items)
        (wants : left ≡ waiting_left right) (has : roles ≡ pattern_test right t r p.elements s.first) where
      pub cells_stop : (eqb known left && roles) ≡ false → None ≡ cells_end n t p right r s
      unfolding cells_end
      cells_stop holds = rw (← reads, ← wants, ← has, holds)

      pub cells_told : (eqb known left && roles) ≡ true → {high : ℕ} → high ≡ last_kind right → (o : Option ℕ) → o ≡ literals_end n t p high s
          → option_and_then (λ l. Some (places (p.elements + s.first + s.more) (p.items + s.items) l)) o ≡ cells_end n t p right r s
      unfolding cells_end
      cells_told holds high o ends = rw (← reads, ← wants, ← has, holds, ← high, ← ends)

  -- the places behind a step, by its row, what its kind asks and the tests of it
  module _ (t : List ℕ) (k : ℕ) (p : Places) {r : Row} (reads : r ≡ read_row_at t (steps_at + 24 * k)) where
    pub step_other : None ≡ row_asked r.kind → None ≡ places_behind_step n t k p
    unfolding places_behind_step
    step_other asks = rw (← reads, ← asks)

    module _ (a : RowAsks) {s : Stretches} {row start stretches : Bool} (asks : Some a ≡ row_asked r.kind) (has : s ≡ stretches_of a.righting r.right.value)
        (one : row ≡ row_test n a r) (two : start ≡ start_test p a.righting r.right.value) (three : stretches ≡ stretches_test n p a.righting s) where
      pub step_told : places_behind_step n t k p ≡ cond ((row && start) && stretches) (cells_end n t p a.righting r.left.place s) None
      unfolding places_behind_step row_end step_test
      step_told = rw (← reads, ← asks, ← has, ← one, ← two, ← three)

  -- stretches that pass their test stay within their regions
  pub stretches_inside : (p : Places) (right : Righting) (s : Stretches) → FewCounts n → PlacesRoom p → stretches_test n p right s ≡ true → StretchesInside s p
  stretches_inside p right s few room h =
      let f = stretches_tests n p right s h in
      record { elements = omega (arith, few.elements, f.2); items = omega (arith, few.items, f.3); literals = room.literals }

  -- counts that pass their test are few
  pub counts_few : counts_test n ≡ true → FewCounts n
  unfolding counts_test
  counts_few h =
      let f = seven (leb 1 n.steps) (leb n.steps 256) (leb n.strings 32) (leb n.numbers 32) (leb n.elements 1024)
      (leb n.items 1024) (leb n.literals 4096) h in
      record {
        some = leb-true 1 n.steps f.0;
        steps = leb-true n.steps 256 f.1;
        strings = leb-true n.strings 32 f.2;
        numbers = leb-true n.numbers 32 f.3;
        elements = leb-true n.elements 1024 f.4;
        items = leb-true n.items 1024 f.5;
        literals = leb-true n.literals 4096 f.6;
      }
