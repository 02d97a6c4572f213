-- The code's tests of a table, all together, are the rules. Assumes nothing.
use Rattle.std.specs.Prelude.{Bool, true, false, ◌&&◌, List, ◌∷◌, ◌++◌, ◌≡◌, eqb, replicate, Option, Some, None}
use Rattle.std.proofs.Common.{true≢false, sym, ◌∙◌, arith}
use Rattle.std.proofs.lemmas.Bool.{false≢true}
use Rattle.std.proofs.Math.Path.{refl, ap, subst}
use Prim.Native.Nat.{ℕ, zero, suc, ◌+◌, ◌*◌, ◌-◌, ◌≤◌, ◌<◌}
use Rattle.std.proofs.Math.ListN.{length, get_or}
use borrow.Author.Tests.{eqb-true, le-leb, eq-eqb}
use Rattle.base.specs.Choice.{test_cases, same_truth}
use Rattle.base.specs.Current.{current, table_size}
use Rattle.base.specs.ListLaws.{all-zeros, length_stretch, zeros_are}
use Rattle.base.specs.Lists.{all}
use Rattle.syntax.specs.Program.{Statement, set_number, set_string, goto, finish, if_test, scan, read, write, execute, return, is_finish, last_finishes}
use Rattle.encoding.specs.Kinds.{finish_kind}
use Rattle.encoding.specs.NumeralLaws.{byte-read}
use Rattle.encoding.specs.Numerals.{in_bytes, numeral_at}
use Rattle.encoding.specs.ProgramLaws.{program_runs, first_step}
use Rattle.encoding.specs.Rules.{step_holds, is_program, keeps_rules}
use Rattle.encoding.specs.Table.{Row, row_bytes, cell_bytes, statement_row, elements_of, items_of, all_elements, all_items, all_literals, steps_at}
use Rattle.encoding.specs.TableLaws.{in_range_lem}
use Rattle.encoding.specs.TableReading.{read_row_at, statement_of_row, step_in, read_steps, program_in}
use Rattle.decoder.specs.Kept.{step_count}
use Rattle.decoder.specs.Reading.{CountsRead}
use Rattle.encoding.specs.declared.cells.Counts.{Counts}
use Rattle.verifier.specs.Checked.{Zeros, Checked, checked_keeps, keeps_checked}
use Rattle.verifier.specs.Conjunctions.{three, five}
use Rattle.verifier.specs.Same.{SameSteps}
use Rattle.verifier.specs.Tests.{places, start, steps_end, counts_test, unused_test, zeros_test, ends_test, totals_test, FewCounts}
use Rattle.verifier.specs.Turns.{counts_few}
use Rattle.verifier.specs.Walk.{steps_back, steps_forth}
use Rattle.verifier.specs.Written.{piece, piece_stands}
use Rattle.verifier.specs.declared.steps.Places.{Places}

zeros-found : (t : List ℕ) (from to m : ℕ) → to - from ≡ m → from + m ≤ length t → zeros_test t from to ≡ true → Zeros t from m
unfolding zeros_test
zeros-found t from to m e room h =
    let own = rw e at h in
    zeros_are (piece t from m) own ∙ ap (λ (k : ℕ). replicate k 0) (length_stretch t from m room)

zeros-kept : (t : List ℕ) (from to m : ℕ) → to - from ≡ m → Zeros t from m → zeros_test t from to ≡ true
unfolding zeros_test
zeros-kept t from to m e z = rw (e, z) (all-zeros m)

-- a row of the kind that finishes is read so, and a statement that finishes is written so
finish_read : (t : List ℕ) (r : Row) → r.kind ≡ finish_kind.number → is_finish (statement_of_row t r) ≡ true
unfolding statement_of_row is_finish
finish_read t r e = rw e

finish_written : (s : Statement) (element item : ℕ) → is_finish s ≡ true → (statement_row element item s).kind ≡ finish_kind.number
unfolding is_finish statement_row
finish_written finish element item h = refl
finish_written (set_number i x) element item h = absurd (false≢true h)
finish_written (set_string p xs) element item h = absurd (false≢true h)
finish_written (goto k) element item h = absurd (false≢true h)
finish_written (if_test t b) element item h = absurd (false≢true h)
finish_written (scan d p xs r b) element item h = absurd (false≢true h)
finish_written (read p b) element item h = absurd (false≢true h)
finish_written (write xs) element item h = absurd (false≢true h)
finish_written (execute k) element item h = absurd (false≢true h)
finish_written return element item h = absurd (false≢true h)

-- the last step finishes where the last row's kind says so
last_read : (t : List ℕ) (k m : ℕ) → get_or t (steps_at + 24 * (k + m)) 0 ≡ finish_kind.number → last_finishes (read_steps t k (suc m)) ≡ true
unfolding last_finishes read_steps step_in read_row_at
last_read t k zero h =
    let place : k + 0 ≡ k = omega arith in
    finish_read t (read_row_at t (steps_at + 24 * k)) (ap (λ (j : ℕ). get_or t (steps_at + 24 * j) 0) (sym place) ∙ h)
last_read t k (suc m) h =
    let place : k + 1 + m ≡ k + suc m = omega arith in
    last_read t (k + 1) m (ap (λ (j : ℕ). get_or t (steps_at + 24 * j) 0) place ∙ h)

-- and says so where the last step finishes and stands at its place
last_written : (t : List ℕ) (k e i l m : ℕ) → SameSteps t k e i l (read_steps t k (suc m)) → last_finishes (read_steps t k (suc m)) ≡ true
    → get_or t (steps_at + 24 * (k + m)) 0 ≡ finish_kind.number
unfolding last_finishes read_steps row_bytes
last_written t k e i l zero same h =
    let x = step_in t (steps_at + 24 * k) in
    let at = steps_at + 24 * k in
    let place : k + 0 ≡ k = omega arith in
    let r = statement_row e i x.statement in
    let rest = r.flag ∷ (in_bytes 2 x.card ++ (in_bytes 2 r.success ++ (in_bytes 2 r.failure ++ (cell_bytes r.left ++ cell_bytes r.right)))) in
    ap (λ (j : ℕ). get_or t (steps_at + 24 * j) 0) place
    ∙ byte-read t at r.kind rest (piece_stands t at 24 same.0.row)
    ∙ finish_written x.statement e i h
last_written t k e i l (suc m) same h =
    let x = step_in t (steps_at + 24 * k) in
    let s = x.statement in
    let place : k + 1 + m ≡ k + suc m = omega arith in
    ap (λ (j : ℕ). get_or t (steps_at + 24 * j) 0) (sym place)
    ∙ last_written t (k + 1) (e + length (elements_of s)) (i + length (items_of s)) (l + length (all_literals (elements_of s))) m same.1 h

zero_front : (m : ℕ) → 0 + m ≡ m
zero_front m = omega arith

-- the counts that the header of a table of bytes says
abbrev counts_in : List ℕ → Counts
counts_in t =
    record {
      steps = numeral_at 2 t 2;
      strings = numeral_at 2 t 4;
      numbers = numeral_at 2 t 6;
      elements = numeral_at 2 t 8;
      items = numeral_at 2 t 10;
      literals = numeral_at 2 t 12;
    }

counts_same : (t : List ℕ) (n : Counts) → CountsRead t n → counts_in t ≡ n
counts_same t n c =
    λ i. record {
      steps = sym c.steps i;
      strings = sym c.strings i;
      numbers = sym c.numbers i;
      elements = sym c.elements i;
      items = sym c.items i;
      literals = sym c.literals i;
    }

-- all tests behind that of the counts
abbrev all_tests : Counts → List ℕ → Bool
all_tests n t = (ends_test n t && unused_test n t) && totals_test n (steps_end n t 0 start n.steps)

-- totals that are met are the places behind all steps
record TotalsMet (n : Counts) (o : Option Places) : Type 0 where
  end : Places
  is : o ≡ Some end
  elements : end.elements ≡ n.elements
  items : end.items ≡ n.items
  literals : end.literals ≡ n.literals

totals_met : (n : Counts) (o : Option Places) → totals_test n o ≡ true → TotalsMet n o
unfolding totals_test
totals_met n None h = absurd (false≢true h)
totals_met n (Some q) h =
    let f = three (eqb q.elements n.elements) (eqb q.items n.items) (eqb q.literals n.literals) h in
    record {
      end = q;
      is = refl;
      elements = eqb-true q.elements n.elements f.0;
      items = eqb-true q.items n.items f.1;
      literals = eqb-true q.literals n.literals f.2;
    }

module _ (t : List ℕ) (bytes : (i : ℕ) → get_or t i 0 < 256) (room : table_size ≤ length t) where
  -- a table that passes them is checked
  tests_checked : FewCounts (counts_in t) → all_tests (counts_in t) t ≡ true → Checked t
  unfolding ends_test unused_test places program_in is_program steps_at
  tests_checked few h =
      let n = counts_in t in
      let q = steps_end n t 0 start n.steps in
      let f = three (ends_test n t) (unused_test n t) (totals_test n q) h in
      let ends = three (eqb (get_or t 0 0) 1) (eqb (get_or t 1 0) 0) (eqb (get_or t (64 + 24 * (n.steps - 1)) 0) 33) f.0 in
      let unused =
      five (zeros_test t 14 64) (zeros_test t (64 + 24 * n.steps) 6208) (zeros_test t (6208 + 8 * n.elements) 14_400)
      (zeros_test t (14_400 + 8 * n.items) 22_592) (zeros_test t (22_592 + n.literals) table_size) f.1 in
      let totals = totals_met n q f.2 in
      let back = steps_back n few t bytes room 0 n.steps start totals.end (omega (arith, few.steps)) totals.is in
      let ss = read_steps t 0 n.steps in
      let es = all_elements ss in
      let e : length es ≡ n.elements = omega (arith, ap (λ (x : Places). x.elements) back.end, totals.elements) in
      let i : length (all_items ss) ≡ n.items = omega (arith, ap (λ (x : Places). x.items) back.end, totals.items) in
      let l : length (all_literals es) ≡ n.literals = omega (arith, ap (λ (x : Places). x.literals) back.end, totals.literals) in
      let count = step_count t in
      let more : n.steps ≡ suc (n.steps - 1) = omega (arith, few.some) in
      let kind = eqb-true (get_or t (64 + 24 * (n.steps - 1)) 0) 33 ends.2 in
      let last =
      ap (λ (j : ℕ). last_finishes (read_steps t 0 j)) more
      ∙ last_read t 0 (n.steps - 1) (ap (λ (j : ℕ). get_or t (64 + 24 * j) 0) (zero_front (n.steps - 1)) ∙ kind) in
      record {
        format = eqb-true (get_or t 0 0) 1 ends.0;
        second = eqb-true (get_or t 1 0) 0 ends.1;
        inside =
            rw (
              le-leb n.strings 32 few.strings,
              le-leb n.numbers 32 few.numbers,
              count,
              le-leb n.steps 256 few.steps,
              e,
              le-leb n.elements 1024 few.elements,
              i,
              le-leb n.items 1024 few.items,
              l,
              le-leb n.literals 4096 few.literals,
              last,
            )
            back.hold;
        elements = e;
        items = i;
        literals = l;
        steps = back.same;
        header_zeros = zeros-found t 14 64 50 refl (omega arith) unused.0;
        steps_zeros = zeros-found t (64 + 24 * n.steps) 6208 (6144 - 24 * n.steps) (omega arith) (omega (arith, few.steps)) unused.1;
        elements_zeros =
            zeros-found t (6208 + 8 * n.elements) 14_400 (8192 - 8 * n.elements) (omega arith) (omega (arith, few.elements)) unused.2;
        items_zeros = zeros-found t (14_400 + 8 * n.items) 22_592 (8192 - 8 * n.items) (omega arith) (omega (arith, few.items)) unused.3;
        literals_zeros = zeros-found t (22_592 + n.literals) table_size (6080 - n.literals) (omega arith) (omega (arith, few.literals)) unused.4;
      }

  -- and a table that is checked passes all tests
  checked_counts : Checked t → counts_test (counts_in t) ≡ true
  unfolding counts_test program_in
  checked_counts c =
      let n = counts_in t in
      let ok = in_range_lem current (program_in t) c.inside in
      let some = first_step (program_in t).steps (program_runs current (program_in t) c.inside).last in
      let count = step_count t in
      rw (
        le-leb 1 n.steps (omega arith),
        le-leb n.steps 256 (omega (arith, ok.steps)),
        le-leb n.strings 32 ok.strings,
        le-leb n.numbers 32 ok.numbers,
        le-leb n.elements 1024 (omega (arith, ok.elements, c.elements)),
        le-leb n.items 1024 (omega (arith, ok.items, c.items)),
        le-leb n.literals 4096 (omega (arith, ok.literals, c.literals)),
      )

  checked_tests : FewCounts (counts_in t) → Checked t → all_tests (counts_in t) t ≡ true
  unfolding ends_test unused_test totals_test places program_in steps_at
  checked_tests few c =
      let n = counts_in t in
      let ok = in_range_lem current (program_in t) c.inside in
      let runs = program_runs current (program_in t) c.inside in
      let ss = (program_in t).steps in
      let count = step_count t in
      let holds = subst (λ (m : ℕ). all (step_holds current n.strings n.numbers m) ss ≡ true) count ok.hold in
      let walked =
      steps_forth n few t bytes room 0 start ss c.steps holds (omega (arith, c.elements)) (omega (arith, c.items))
      (omega (arith, c.literals, ok.literals)) in
      let end = ap (λ (m : ℕ). steps_end n t 0 start m) (sym count) ∙ walked in
      let e : 0 + length (all_elements ss) ≡ n.elements = omega (arith, c.elements) in
      let i : 0 + length (all_items ss) ≡ n.items = omega (arith, c.items) in
      let l : 0 + length (all_literals (all_elements ss)) ≡ n.literals = omega (arith, c.literals) in
      let more : n.steps ≡ suc (n.steps - 1) = omega (arith, few.some) in
      let steps = ap (read_steps t 0) more in
      let kind =
      last_written t 0 0 0 0 (n.steps - 1) (subst (SameSteps t 0 0 0 0) steps c.steps) (ap last_finishes (sym steps) ∙ runs.last) in
      let last = eq-eqb (get_or t (64 + 24 * (n.steps - 1)) 0) 33 (ap (λ (j : ℕ). get_or t (64 + 24 * j) 0) (sym (zero_front (n.steps - 1))) ∙ kind) in
      rw (
        eq-eqb (get_or t 0 0) 1 c.format,
        eq-eqb (get_or t 1 0) 0 c.second,
        last,
        zeros-kept t 14 64 50 refl c.header_zeros,
        zeros-kept t (64 + 24 * n.steps) 6208 (6144 - 24 * n.steps) (omega arith) c.steps_zeros,
        zeros-kept t (6208 + 8 * n.elements) 14_400 (8192 - 8 * n.elements) (omega arith) c.elements_zeros,
        zeros-kept t (14_400 + 8 * n.items) 22_592 (8192 - 8 * n.items) (omega arith) c.items_zeros,
        zeros-kept t (22_592 + n.literals) table_size (6080 - n.literals) (omega arith) c.literals_zeros,
        end,
        eq-eqb (0 + length (all_elements ss)) n.elements e,
        eq-eqb (0 + length (all_items ss)) n.items i,
        eq-eqb (0 + length (all_literals (all_elements ss))) n.literals l,
      )

  -- a table with counts out of their limits breaks the rules
  pub counts_broken : (n : Counts) → CountsRead t n → counts_test n ≡ false → keeps_rules current t ≡ false
  counts_broken n c h =
      test_cases (λ b. keeps_rules current t ≡ b → b ≡ false) (keeps_rules current t)
      (λ _ e.
      absurd (true≢false (sym (checked_counts (keeps_checked t room e)) ∙ ap counts_test (counts_same t n c) ∙ h)))
      (λ _ e. refl) refl

  -- and any other keeps them where all other tests hold
  pub tests_rules : (n : Counts) → CountsRead t n → counts_test n ≡ true → all_tests n t ≡ keeps_rules current t
  tests_rules n c h =
      let same = counts_same t n c in
      let few = counts_few (counts_in t) (ap counts_test same ∙ h) in
      ap (λ (m : Counts). all_tests m t) (sym same)
      ∙ same_truth (all_tests (counts_in t) t) (keeps_rules current t) (λ e. checked_keeps t bytes room (tests_checked few e))
      (λ e. checked_tests few (keeps_checked t room e))
