-- READ beside what it answered before wish 1, when the tail of a record was dropped in silence: a cut record has one note more, and nothing
-- else changed. Assumes nothing.
use Rattle.std.specs.Prelude.{Bool, true, false, cond, ◌||◌, ◌≡◌, refl, ℕ, ◌+◌, min, eqb, nat_abs, take, drop}
use Rattle.std.proofs.Common.{sym, ◌∙◌, ap, add-zero}
use borrow.Author.Tests.{ne_eqb}
use Rattle.base.specs.Choice.{test_cases}
use Rattle.base.specs.Edition.{Edition}
use Rattle.base.specs.Lists.{is_nil}
use Rattle.syntax.specs.Program.{Part, whole, first, Branch, read, Program}
use Rattle.machine.specs.Expressions.{length_in}
use Rattle.machine.specs.State.{State, with_string, going_to, with_input}
use Rattle.machine.specs.Step.{no_scan, Done, moving, record_length, Taken, take_record, cut_notes, cut_noted, reading, execution}
use Rattle.machine.specs.Step.{statement_at, turned_down_by, Stepped, concluded, step}
use Rattle.values.specs.Conversion.{longest_string}
use Rattle.values.specs.Numbers.{is_negative}
use Rattle.values.specs.Result.{Result, done, stop, with_notes, pure}
use Rattle.values.specs.ResultLaws.{notes_none}

-- document 01's READ, before wish 1
unfoldable pub take_silently : ℕ → ℕ → Branch → State → State
take_silently s most b c =
    let n = record_length c.input in
    cond (eqb most 0 || is_nil c.input)
    (going_to b.failure c.memory c)
    (with_input (drop (n + 1) c.input)
    (going_to b.success (with_string c.memory s (take (min most longest_string) (take n c.input))) c))

unfoldable pub read_silently : Part → Branch → State → Result Done
read_silently (whole s) b c = moving (take_silently s longest_string b c)
read_silently (first s n) b c =
    let z = length_in c.memory n in
    cond (is_negative z) (stop 17) (moving (take_silently s (nat_abs z) b c))

-- how many bytes a READ drops; one that is stopped drops none
unfoldable pub dropped_by : Part → Branch → State → ℕ
dropped_by (whole s) b c = (take_record s longest_string b c).dropped
dropped_by (first s n) b c =
    let z = length_in c.memory n in
    cond (is_negative z) 0 (take_record s (nat_abs z) b c).dropped

-- the state behind a record taken is that of before
pub taken_state : (s most : ℕ) (b : Branch) (c : State) → (take_record s most b c).state ≡ take_silently s most b c
unfolding take_record take_silently
taken_state s most b c = chosen_state (eqb most 0 || is_nil c.input) _ _
  where
    chosen_state : (test : Bool) (x y : Taken) → (cond test x y).state ≡ cond test x.state y.state
    chosen_state true x y = refl
    chosen_state false x y = refl

-- what a READ comes to is what it came to, with the note of the record taken
taken_cut : (t : Taken) (s : State) → t.state ≡ s → cut_noted t ≡ with_notes (cut_notes t.dropped) (moving s)
unfolding cut_noted with_notes moving pure
taken_cut t s same =
    λ i. done (record { state = same i; scanned = no_scan }) (sym (add-zero (cut_notes t.dropped)) i)

-- every READ answers what it did before, with a note more where bytes are dropped
pub read_notes : (q : Part) (b : Branch) (c : State) → reading q b c ≡ with_notes (cut_notes (dropped_by q b c)) (read_silently q b c)
unfolding reading read_silently dropped_by with_notes
read_notes (whole s) b c = taken_cut _ _ (taken_state s longest_string b c)
read_notes (first s n) b c =
    let z = length_in c.memory n in
    let t = take_record s (nat_abs z) b c in
    let silent = take_silently s (nat_abs z) b c in
    test_cases (λ x. cond x (stop 17) (cut_noted t) ≡ with_notes (cut_notes (cond x 0 t.dropped)) (cond x (stop 17) (moving silent))) (is_negative z)
    (λ _. refl)
    (λ _. taken_cut t silent (taken_state s (nat_abs z) b c))

-- a READ that drops nothing answers what it did before
pub uncut_read : (q : Part) (b : Branch) (c : State) → dropped_by q b c ≡ 0 → reading q b c ≡ read_silently q b c
unfolding cut_notes
uncut_read q b c none =
    read_notes q b c ∙ ap (λ n. with_notes (cut_notes n) (read_silently q b c)) none ∙ notes_none (read_silently q b c)

-- its step too answers what it did, and leaves the state that it did
pub uncut_step : (e : Edition) (p : Program) (lent : ℕ) (c : State) (q : Part) (b : Branch) → statement_at p c.next ≡ read q b
    → dropped_by q b c ≡ 0
    → step e p lent c
    ≡ cond (eqb (turned_down_by p c) 0) (concluded c (read_silently q b c))
    (record { answer = record { number = turned_down_by p c; notes = 0; scanned = no_scan }; state = c })
unfolding step execution
uncut_step e p lent c q b is none =
    ap (λ (w : Result Done). cond {A = Stepped} (eqb (turned_down_by p c) 0) (concluded c w)
    (record { answer = record { number = turned_down_by p c; notes = 0; scanned = no_scan }; state = c }))
    (ap (λ x. execution e lent x c) is ∙ uncut_read q b c none)

-- one that drops bytes has one note, however many they are
pub cut_read : (q : Part) (b : Branch) (c : State) → ¬ (dropped_by q b c ≡ 0) → reading q b c ≡ with_notes 1 (read_silently q b c)
unfolding cut_notes
cut_read q b c some =
    read_notes q b c ∙ ap (λ t. with_notes (cond t 0 1) (read_silently q b c)) (ne_eqb (dropped_by q b c) 0 some)
