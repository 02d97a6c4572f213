-- The steps that the tests walk through are the program's: they stand at their places and hold, and the places behind them are its totals.
-- Assumes nothing.
use Rattle.std.specs.Prelude.{Bool, true, ◌≡◌, ltb, get_or, Some, option_and_then}
use mathlib.Core.List.{List, [], ◌∷◌, ◌++◌}
use Rattle.std.proofs.Math.Path.{refl, sym, ap, subst}
use Rattle.std.proofs.Common.{◌∙◌, lt-ltb}
use Rattle.std.proofs.lemmas.Option.{same_Some, option_and_then_some}
use Prim.Native.Nat.{ℕ, zero, suc, ◌+◌, ◌*◌, ◌^◌, ◌≤◌, ◌<◌}
use native.Mathlib.Omega.{arith}
use Rattle.std.proofs.Math.ListN.{length, length-append}
use Rattle.base.specs.Choice.{both_true}
use Rattle.base.specs.Current.{current, table_size}
use Rattle.base.specs.Lists.{all}
use Rattle.syntax.specs.Program.{Statement, Step}
use Rattle.encoding.specs.Kinds.{spell_statement}
use Rattle.encoding.specs.Numerals.{numeral_at}
use Rattle.encoding.specs.RowLaws.{row_read}
use Rattle.encoding.specs.Rules.{statement_holds, step_holds}
use Rattle.encoding.specs.Table.{row_bytes, statement_row, elements_of, items_of, all_elements, all_items, all_literals, steps_at}
use Rattle.encoding.specs.TableReading.{read_row_at, statement_of_row, step_in, read_steps}
use Rattle.encoding.specs.TableLiterals.{all-literals-append}
use Rattle.encoding.specs.declared.cells.Counts.{Counts}
use Rattle.verifier.specs.Rights.{places_same}
use Rattle.verifier.specs.Same.{StepSame, SameSteps}
use Rattle.verifier.specs.Statements.{RowBack, row_back, row_forth}
use Rattle.verifier.specs.Tests.{places, places_behind_step, steps_end, FewCounts}
use Rattle.verifier.specs.Written.{piece_stands, row_written}
use Rattle.verifier.specs.declared.steps.Places.{Places}

module _ (n : Counts) where
  abbrev pub step_ok : Step → Bool
  step_ok = step_holds current n.strings n.numbers n.steps

  -- the places behind steps
  abbrev pub places_behind : Places → List Step → Places
  places_behind p ss =
      places (p.elements + length (all_elements ss)) (p.items + length (all_items ss)) (p.literals + length (all_literals (all_elements ss)))

  -- and behind one
  abbrev past : Places → Statement → Places
  past p s = places (p.elements + length (elements_of s)) (p.items + length (items_of s)) (p.literals + length (all_literals (elements_of s)))

  behind_none : (p : Places) → p ≡ places_behind p []
  unfolding all_elements all_items all_literals places
  behind_none p =
      let e : p.elements ≡ p.elements + 0 = omega arith in
      let i : p.items ≡ p.items + 0 = omega arith in
      let l : p.literals ≡ p.literals + 0 = omega arith in
      places_same e i l

  behind_more : (p : Places) (x : Step) (xs : List Step) → places_behind (past p x.statement) xs ≡ places_behind p (x ∷ xs)
  unfolding all_elements all_items places
  behind_more p x xs =
      let es = elements_of x.statement in
      let is = items_of x.statement in
      let one = length-append es (all_elements xs) in
      let two = length-append is (all_items xs) in
      let three = ap length (all-literals-append es (all_elements xs)) ∙ length-append (all_literals es) (all_literals (all_elements xs)) in
      let e : p.elements + length es + length (all_elements xs) ≡ p.elements + length (es ++ all_elements xs) = omega arith in
      let i : p.items + length is + length (all_items xs) ≡ p.items + length (is ++ all_items xs) = omega arith in
      let l : p.literals + length (all_literals es) + length (all_literals (all_elements xs)) ≡ p.literals + length (all_literals (es ++ all_elements xs)) = omega arith in
      places_same e i l

  module _ (few : FewCounts n) (t : List ℕ) (bytes : (i : ℕ) → get_or t i 0 < 256) (room : table_size ≤ length t) where
    pub record StepsBack (k : ℕ) (p q : Places) (ss : List Step) : Type 0 where
      pub same : SameSteps t k p.elements p.items p.literals ss
      pub hold : all step_ok ss ≡ true
      pub end : q ≡ places_behind p ss

    -- a card has 2 bytes
    card_small : (at : ℕ) → numeral_at 2 t at < 2 ^ 16
    unfolding numeral_at
    card_small at = omega (arith, bytes at, bytes (at + 1))

    -- a step with places behind it
    step_back : (k : ℕ) (p q : Places) → places_behind_step n t k p ≡ Some q
        → RowBack n few t bytes room p q (read_row_at t (steps_at + 24 * k)) (spell_statement (statement_of_row t (read_row_at t (steps_at + 24 * k))))
    unfolding places_behind_step
    step_back k p q e = row_back n few t bytes room p q (read_row_at t (steps_at + 24 * k)) e

    pub steps_back : (k m : ℕ) (p q : Places) → k + m ≤ 256 → steps_end n t k p m ≡ Some q → StepsBack k p q (read_steps t k m)
    unfolding steps_end read_steps step_in step_holds all steps_at places statement_holds elements_of items_of statement_row
    steps_back k zero p q inside e = record { same = tt; hold = refl; end = sym (same_Some p q e) ∙ behind_none p }
    steps_back k (suc m) p q inside e =
        let at = steps_at + 24 * k in
        let x = step_in t at in
        let xs = read_steps t (k + 1) m in
        option_and_then_some (λ y. steps_end n t (k + 1) y m) (places_behind_step n t k p) q e
        (λ middle is more.
        let rest = steps_back (k + 1) m middle q (omega arith) more in
        let own = step_back k p middle is in
        let tail = subst (λ (y : Places). StepsBack (k + 1) y q xs) own.end rest in
        let card = ap (row_bytes (numeral_at 2 t (at + 2))) own.row_is in
        record {
          same = (
            record {
              row = card ∙ row_written t bytes at (omega arith);
              elements = own.elements;
              items = own.items;
            },
            tail.same,
          );
          hold = rw (lt-ltb (numeral_at 2 t (at + 2)) (2 ^ 16) (card_small (at + 2)), own.holds) tail.hold;
          end = tail.end ∙ behind_more p x xs;
        })

    -- a step that stands at its place and holds, within the limits
    step_forth : (k : ℕ) (p : Places) (x : Step) → StepSame t k p.elements p.items p.literals x → step_ok x ≡ true
        → p.elements + length (elements_of x.statement) ≤ n.elements → p.items + length (items_of x.statement) ≤ n.items
        → p.literals + length (all_literals (elements_of x.statement)) ≤ 4096 → places_behind_step n t k p ≡ Some (past p x.statement)
    unfolding places_behind_step step_holds
    step_forth k p x same h e i l =
        let s = x.statement in
        let at = steps_at + 24 * k in
        let r = statement_row p.elements p.items s in
        let ok = both_true (ltb x.card (2 ^ 16)) (statement_holds current n.strings n.numbers n.steps s) h in
        let own = row_forth n few t bytes room p s ok.1 same.elements same.items e i l in
        let read = row_read t at x.card r (piece_stands t at 24 same.row) own.fits in
        rw read own.end

    pub steps_forth : (k : ℕ) (p : Places) (ss : List Step) → SameSteps t k p.elements p.items p.literals ss → all step_ok ss ≡ true
        → p.elements + length (all_elements ss) ≤ n.elements → p.items + length (all_items ss) ≤ n.items
        → p.literals + length (all_literals (all_elements ss)) ≤ 4096 → steps_end n t k p (length ss) ≡ Some (places_behind p ss)
    unfolding steps_end all all_elements all_items places
    steps_forth k p [] same h e i l = ap Some (behind_none p)
    steps_forth k p (x ∷ xs) same h e i l =
        let s = x.statement in
        let es = elements_of s in
        let is = items_of s in
        let ok = both_true (step_ok x) (all step_ok xs) h in
        let one = length-append es (all_elements xs) in
        let two = length-append is (all_items xs) in
        let three = ap length (all-literals-append es (all_elements xs)) ∙ length-append (all_literals es) (all_literals (all_elements xs)) in
        let own = step_forth k p x same.0 ok.0 (omega arith) (omega arith) (omega arith) in
        let rest = steps_forth (k + 1) (past p s) xs same.1 ok.1 (omega arith) (omega arith) (omega arith) in
        ap (option_and_then (λ y. steps_end n t (k + 1) y (length xs))) own ∙ rest ∙ ap Some (behind_more p x xs)
