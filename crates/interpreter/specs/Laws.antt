-- The laws of a step on the buffers: what turns it down, what a statement's work comes to, and how it is concluded. Assumes nothing.
use Rattle.std.specs.Prelude as std
use Rattle.std.specs.Prelude.{Bool, Ok, Err, not, ◌≡◌, ℕ, ◌+◌, ◌*◌, ◌≤◌, ◌<◌, leb, ltb, length, get_or, set, replicate}
use Rattle.std.proofs.Math.Bool.{true, false, cond}
use mathlib.Core.List.{List, [], ◌∷◌, append-nil, reverse}
use Rattle.std.proofs.Math.Option.{Option, none, some}
use Rattle.std.proofs.Math.Path.{refl, ap, ap₂}
use Rattle.std.proofs.Common.{sym, ◌∙◌, subst, arith}
use Rattle.std.proofs.Math.Dec.{eqb}
use borrow.Author.Tests.{leb-false, ltb-false, eqb-true, ne_eqb, not-false}
use Rattle.base.specs.Choice.{cond_cases}
use Rattle.base.specs.Current.{current, table_size}
use Rattle.base.specs.Lists.{is_nil}
use Rattle.encoding.specs.BufferLaws.{StoreGood, image_good, fresh-image}
use Rattle.encoding.specs.Buffers.{returns_in, store_image, state_in, state_keeps, status_of, store_keeps, store_size}
use Rattle.calls.specs.Calls.{Buffers, step_done, given_in, out_of_range, step_call, step_refusal, buffers}
use Rattle.calls.specs.GivenLaws.{StateInRange, state_in_range, given_holds, returns-count, refusal_none}
use Rattle.calls.specs.Holding.{Holding}
use Rattle.encoding.specs.Kinds as Kinds
use Rattle.encoding.specs.Numerals.{numeral_at}
use Rattle.encoding.specs.Rules.{keeps_rules}
use Rattle.calls.specs.StepLaws.{Tabled, call_held}
use Rattle.encoding.specs.Table.{Row, steps_at}
use Rattle.encoding.specs.TableReading.{program_in, read_row_at, statement_of_row}
use Rattle.execution.specs.Executing.{Executes, StatementStanding, Unmoved, machine_in}
use Rattle.execution.specs.Laws.{stops, scans}
use Rattle.evaluator.specs.Memory.{MemoryReady, keeps_ready, memory_in}
use Rattle.syntax.specs.Program as Program
use Rattle.syntax.specs.Program.{Program}
use Rattle.machine.specs.Bounds.{replicate_everywhere}
use Rattle.machine.specs.State.{State, is_running}
use Rattle.machine.specs.Step.{Done, chosen, execution, concluded, lacks_return, most_returns, no_scan, scanned_to, statement_at, step, turned_down_by}
use Rattle.decoder.specs.Holds.{StatementHolds}
use Rattle.decoder.specs.Kept.{kept_statement, kept-steps, statement_is, step_count}
use Rattle.encoding.specs.Meaning.{branch_meaning}
use Rattle.decoder.specs.Meaning.{statement_meaning}
use Rattle.decoder.specs.Reading.{StatementDecoded}
use Rattle.decoder.specs.declared.Scan.{Scan}
use Rattle.decoder.specs.declared.Statement.{Statement}
use Rattle.decoder.specs.declared.Statement.TheVariants as statements
use Rattle.scanning.specs.Call.{answer_numbers, most_elements, no_answer, split_numbers}
use Rattle.scanning.specs.Splits.{Split}
use Rattle.scanning.specs.Trials.{Scanned}
use Rattle.scan_statement.specs.Scans.{SplitEnds, is_split, scanning_of}
use Rattle.scan_statement.specs.SearchLaws.{answer_noted}
use Rattle.effects.specs.Leaving.{Completion}
use Rattle.values.specs.Result.{Result, stop, pure}
use Rattle.values.specs.ResultLaws.{bound, stopped}
use Rattle.interpreter.specs.Clauses.{Given, Allowed, StepGoing, ReturnsEnough, next_statement, Worked, Works, WorksOn, work_of, Concludes, StepAnswers, StepTaken, unfit_number}
use Rattle.interpreter.specs.declared.Halt.{Halt}

-- an answer that says nothing is zeros
pub silent_zeros : replicate 24 0 ≡ no_answer
unfolding no_answer split_numbers most_elements
silent_zeros = refl

-- so is that of a step that is stopped
stopped_zeros : replicate 24 0 ≡ answer_numbers 0 no_scan
unfolding answer_numbers no_scan split_numbers most_elements
stopped_zeros = refl

-- the notes of an answer
split_notes : (o : Option Split) (trials n : ℕ) → get_or (split_numbers o trials n) 3 0 ≡ n
unfolding split_numbers
split_notes none trials n = refl
split_notes (some s) trials n = refl

answer_notes : (a : Scanned) (n : ℕ) → get_or (answer_numbers n a) 3 0 ≡ n
unfolding answer_numbers
answer_notes a n = split_notes a.split a.trials n

-- a statement that doesn't scan: the answer says nothing but its notes
plain_works : (r : Completion) (input : List ℕ) (b left : Buffers) (answer : List ℕ) (w : Result Done) → Executes r input b left w
    → answer ≡ no_answer → Works r input b left answer w
unfolding no_answer answer_numbers split_numbers no_scan
plain_works (Ok notes) input b left answer w c silent =
    record {
      machine = c.machine;
      scanned = no_scan;
      work = c.work;
      left_is = c.left_is;
      answer_is = ap (λ (l : List ℕ). set l 3 notes) silent;
    }
plain_works (Err s) input b left answer w c silent = c

-- buffers that only the machine turns down
module _ {table input : List ℕ} {b : Buffers} (g : Given table input b) where
  -- the table's program, and the machine that the buffers hold
  abbrev p : Program
  p = program_in table

  abbrev c : State
  c = machine_in input b

  facts : StateInRange current (length p.steps) (length input) (length b.output) b.state
  facts = state_in_range current (length p.steps) (length input) (length b.output) b.state g.range

  pub given_ready : MemoryReady b.store b.state
  given_ready = keeps_ready (length p.steps) (length input) (length b.output) b.state g.size g.range b.store g.store_good_lem

  pub given_standing : get_or b.state 0 0 ≡ 0 → StatementStanding (program_in table) input b
  given_standing runs = record { store_good_lem = g.store_good_lem; size = g.size; range = g.range; running = runs }

  -- the next step is one of the table's
  pub next_inside : (get_or b.state 1 0 < numeral_at 2 table 2) × (numeral_at 2 table 2 ≤ 256)
  next_inside = (omega (arith, facts.next, step_count table), (kept-steps table g.keeps).1)

  -- so many returns are held, and the places in input and output are inside
  pub few_returns : get_or b.state 2 0 ≤ 16
  unfolding most_returns
  few_returns = facts.count

  pub place_inside : get_or b.state 3 0 ≤ length input
  place_inside = facts.place

  pub written_inside : get_or b.state 4 0 ≤ length b.output
  written_inside = facts.written

  pub tabled : Tabled current p table
  unfolding current
  tabled = record { size = g.bytes; keeps = g.keeps; reads = refl }

  pub holding : Holding current p (length b.output) input c b
  holding = given_holds current p input b g.size g.store_good_lem g.range

  -- the returns that the machine holds
  pub returns_counted : length (reverse (returns_in b.state)) ≡ get_or b.state 2 0
  returns_counted = returns-count b.state (omega (arith, g.size, few_returns))

  -- the row of the next step, and whether it lacks a return
  abbrev pub next_row : Row
  next_row = read_row_at table (steps_at + 24 * get_or b.state 1 0)

  abbrev pub lacks_next : Bool
  lacks_next = lacks_return (statement_of_row table next_row) (reverse (returns_in b.state))

  -- as the code reads them
  pub kind-next : {k kind : ℕ} → k ≡ get_or b.state 1 0 → kind ≡ (read_row_at table (steps_at + 24 * k)).kind → next_row.kind ≡ kind
  kind-next e read = sym (read ∙ ap (λ (n : ℕ). (read_row_at table (steps_at + 24 * n)).kind) e)

  statement_next : {k : ℕ} {x : Statement} → k ≡ get_or b.state 1 0 → StatementDecoded table (read_row_at table (steps_at + 24 * k)) x
      → StatementDecoded table next_row x
  statement_next {x = x} e = subst (λ (n : ℕ). StatementDecoded table (read_row_at table (steps_at + 24 * n)) x) e

  next_statement_lem : statement_at (program_in table) (get_or b.state 1 0) ≡ statement_of_row table next_row
  next_statement_lem = statement_is table (get_or b.state 1 0) next_inside.0

  -- what the machine itself says of the step
  turned_by : (lacks runs : Bool) → lacks_next ≡ lacks → is_running (status_of (get_or b.state 0 0)) ≡ runs
      → turned_down_by p c ≡ cond lacks 15 (cond runs 0 16)
  unfolding turned_down_by state_in
  turned_by lacks runs h k =
      ap₂ (λ (t u : Bool). cond t 15 (cond u 0 16))
      (ap (λ y. lacks_return y (reverse (returns_in b.state))) next_statement_lem ∙ h) k

  -- a step that is turned down
  turned_called : (n : ℕ) → turned_down_by p c ≡ n → eqb n 0 ≡ false
      → step_call current table input b ≡ record { number = n; answer = no_answer; left = b }
  turned_called n e q =
      call_held current p table input tabled (length b.output) c b holding false (ap (λ (k : ℕ). eqb k 0) e ∙ q)
      ∙ ap (λ (k : ℕ). record { number = k; answer = no_answer; left = b }) e

  turned-answers : (n : ℕ) → turned_down_by p c ≡ n → eqb n 0 ≡ false → {number : ℕ} {answer : List ℕ} → number ≡ n
      → answer ≡ replicate 24 0 → StepAnswers (step_call current table input b) number answer b
  turned-answers n e q is zeros =
      rw (turned_called n e q) (record { number_is = is; answer_is = zeros ∙ silent_zeros; left_is = refl })

  -- 15: the return that it goes to, or room for the one that it holds, is lacking
  pub lacking_answers : lacks_next ≡ true → {number : ℕ} {answer : List ℕ} → number ≡ 15 → answer ≡ replicate 24 0
      → StepAnswers (step_call current table input b) number answer b
  lacking_answers h = turned-answers 15 (turned_by true _ h refl) refl

  -- 16: the run has ended
  pub ended_answers : lacks_next ≡ false → is_running (status_of (get_or b.state 0 0)) ≡ false
      → {number : ℕ} {answer : List ℕ} → number ≡ 16 → answer ≡ replicate 24 0 → StepAnswers (step_call current table input b) number answer b
  ended_answers h k = turned-answers 16 (turned_by false false h k) refl

  -- neither: the step is allowed, and is the work of its statement, concluded
  pub step_allowed : lacks_next ≡ false → get_or b.state 0 0 ≡ 0 → Allowed table input b
  step_allowed h runs =
      record { given = g; running = runs; enough = ap (λ y. lacks_return y (reverse (returns_in b.state))) next_statement_lem ∙ h }

  pub done_called : lacks_next ≡ false → is_running (status_of (get_or b.state 0 0)) ≡ true
      → step_call current table input b
      ≡ step_done current table input b (concluded (machine_in input b) (work_of input b (next_statement table b.state)))
  unfolding step state_in
  done_called h k =
      let goes : eqb (turned_down_by p c) 0 ≡ true = ap (λ (n : ℕ). eqb n 0) (turned_by false true h k) in
      call_held current p table input tabled (length b.output) c b holding true goes
      ∙ ap (step_done current table input b) (rw goes)

  -- what is concluded of a statement's work
  pub concluded-taken : get_or b.state 0 0 ≡ 0 → (r : Completion) (left : Buffers) (answer : List ℕ) (w : Result Done) → Works r input b left answer w
      → {given : std.Result ℕ Halt} {state answer_left : List ℕ} → Concludes r given left.state state answer answer_left
      → StepTaken (step_done current table input b (concluded (machine_in input b) w)) given answer_left (buffers left.store state left.output)
  unfolding step_done concluded
  concluded-taken runs (Ok notes) left answer w k e =
      rw (k.work, e.given_is)
      (record {
        answers =
            record {
              number_is = refl;
              answer_is = e.answer_is ∙ k.answer_is;
              left_is = ap (λ (l : List ℕ). buffers left.store l left.output) e.state_is ∙ k.left_is;
            };
        notes_are = ap (λ (l : List ℕ). get_or l 3 0) (e.answer_is ∙ k.answer_is) ∙ answer_notes k.scanned notes;
      })
  concluded-taken runs (Err s) left answer w k e =
      rw (k.work, e.given_is)
      (record {
        answers =
            record {
              number_is = refl;
              answer_is = e.answer_is ∙ stopped_zeros;
              left_is =
                  ap (λ (l : List ℕ). buffers left.store l left.output) e.state_is
                  ∙ ap (λ (l : Buffers). buffers l.store (set l.state 0 2) l.output) k.same
                  ∙ stops p input b (given_standing runs);
            };
        notes_are = ap (λ (l : List ℕ). get_or l 3 0) e.answer_is;
      })

-- a statement of the table that the machine doesn't turn down, by the name y of it
module _ {table input : List ℕ} {b : Buffers} {x : Statement} (g : StepGoing table input b x) where
  pub going_standing : StatementStanding (program_in table) input b
  going_standing = given_standing g.given g.running

  pub going_ready : MemoryReady b.store b.state
  going_ready = given_ready g.given

  pub going_holds : {y : Statement} → x ≡ y → StatementHolds table (numeral_at 2 table 2) y
  going_holds e = subst (StatementHolds table (numeral_at 2 table 2)) e g.holds

  pub going_returns : {y : Statement} → x ≡ y → ReturnsEnough y (get_or b.state 2 0)
  going_returns e = subst (λ (z : Statement). ReturnsEnough z (get_or b.state 2 0)) e g.returns

  -- its work is that of the next step
  pub works_next : {y : Statement} → x ≡ y → {r : Completion} {left : Buffers} {answer : List ℕ}
      → WorksOn r input b left (statement_meaning table y) answer → WorksOn r input b left (next_statement table b.state) answer
  works_next e {r} {left} {answer} =
      subst (λ y. WorksOn r input b left y answer) (ap (statement_meaning table) (sym e) ∙ g.means)

  -- one that doesn't scan, and one that does
  pub executes_works : {y : Statement} → x ≡ y → {r : Completion} {left : Buffers} {answer : List ℕ} → answer ≡ no_answer
      → Executes r input b left (work_of input b (statement_meaning table y)) → WorksOn r input b left (next_statement table b.state) answer
  executes_works {y} e {r} {left} {answer} silent c =
      works_next e (record { works = plain_works r input b left answer (work_of input b (statement_meaning table y)) c silent })

-- what the kind of a row tells of the returns that its statement takes
module _ (t rs : List ℕ) (r : Row) where
  pub execute_lacks : r.kind ≡ (Kinds.execute_kind).number → lacks_return (statement_of_row t r) rs ≡ leb 16 (length rs)
  unfolding lacks_return statement_of_row most_returns
  execute_lacks h = rw h

  pub return_lacks : r.kind ≡ (Kinds.return_kind).number → lacks_return (statement_of_row t r) rs ≡ is_nil rs
  unfolding lacks_return statement_of_row
  return_lacks h = rw h

  -- a row of any other kind takes none
  pub plain_lacks : (r.kind ≡ (Kinds.execute_kind).number → ⊥) → (r.kind ≡ (Kinds.return_kind).number → ⊥)
      → lacks_return (statement_of_row t r) rs ≡ false
  unfolding lacks_return statement_of_row
  plain_lacks enters leaves =
      let P : Program.Statement → Type 0 = λ s. lacks_return s rs ≡ false in
      cond_cases P (eqb r.kind (Kinds.set_number_kind).number) (λ _. refl)
      (λ _.
      cond_cases P (eqb r.kind (Kinds.set_string_kind).number) (λ _. refl)
      (λ _.
      cond_cases P (eqb r.kind (Kinds.goto_kind).number) (λ _. refl)
      (λ _.
      cond_cases P (eqb r.kind (Kinds.finish_kind).number) (λ _. refl)
      (λ _.
      cond_cases P (eqb r.kind (Kinds.execute_kind).number) (λ h. absurd (enters (eqb-true r.kind (Kinds.execute_kind).number h)))
      (λ _.
      cond_cases P (eqb r.kind (Kinds.return_kind).number) (λ h. absurd (leaves (eqb-true r.kind (Kinds.return_kind).number h)))
      (λ _.
      cond_cases P (eqb r.kind (Kinds.null_kind).number) (λ _. refl)
      (λ _.
      cond_cases P (eqb r.kind (Kinds.numeric_kind).number) (λ _. refl)
      (λ _.
      cond_cases P (eqb r.kind (Kinds.compare_kind).number) (λ _. refl)
      (λ _.
      cond_cases P (eqb r.kind (Kinds.scan_kind).number) (λ _. refl)
      (λ _.
      cond_cases P (eqb r.kind (Kinds.replace_kind).number) (λ _. refl)
      (λ _.
      cond_cases P (eqb r.kind (Kinds.read_kind).number) (λ _. refl)
      (λ _.
      cond_cases P (eqb r.kind (Kinds.write_kind).number) (λ _. refl) (λ _. refl)))))))))))))

-- returns are enough where none is lacking
enough_returns : (t : List ℕ) (x : Statement) (rs : List ℕ) (held : ℕ) → length rs ≡ held → lacks_return (statement_meaning t x) rs ≡ false
    → ReturnsEnough x held
unfolding lacks_return most_returns is_nil
enough_returns t (statements.SetNumber i s) rs held e h = tt
enough_returns t (statements.SetString q s) rs held e h = tt
enough_returns t (statements.Goto k) rs held e h = tt
enough_returns t statements.Finish rs held e h = tt
enough_returns t (statements.IfNull s b) rs held e h = tt
enough_returns t (statements.IfNumeric q b) rs held e h = tt
enough_returns t (statements.If x b) rs held e h = tt
enough_returns t (statements.Scan x) rs held e h = tt
enough_returns t (statements.Read q b) rs held e h = tt
enough_returns t (statements.Write s) rs held e h = tt
enough_returns t (statements.Execute k) rs held e h = omega (arith, leb-false 16 (length rs) h)
enough_returns t statements.Return [] held e h = absurd (let z : ◌≡◌ {A = ℕ} 0 1 = cc in omega arith)
enough_returns t statements.Return (k ∷ rs) held e h = omega arith

-- the statement read of a step that is allowed
pub allowed_going : {table input : List ℕ} {b : Buffers} → Allowed table input b → {k : ℕ} {x : Statement} → k ≡ get_or b.state 1 0
    → StatementDecoded table (read_row_at table (steps_at + 24 * k)) x → StepGoing table input b x
allowed_going {table} {b = b} a {x = x} e read =
    let g = a.given in
    let here = statement_next g e read in
    let means = here.means ∙ sym (next_statement_lem g) in
    record {
      given = g;
      running = a.running;
      means = means;
      holds = kept_statement table g.keeps (get_or b.state 1 0) x (next_inside g).0 here;
      returns =
          enough_returns table x (reverse (returns_in b.state)) (get_or b.state 2 0) (returns_counted g)
          (ap (λ y. lacks_return y (reverse (returns_in b.state))) means ∙ a.enough);
    }

-- the step that a scan goes to
goes_to : (o : Option Split) (b : Program.Branch) → chosen (is_split o) b ≡ scanned_to o b
unfolding scanned_to chosen
goes_to (some s) b = refl
goes_to none b = refl

-- SCAN and BACKSCAN, by the step that they go to
pub scan_works : {p : Program} {input : List ℕ} {b : Buffers} → StatementStanding p input b → (table : List ℕ) (s : Scan) {store answer : List ℕ} {notes : ℕ}
    {is : Bool} → SplitEnds is b.store store b.state answer notes (scanning_of table b.store b.state s)
    → Worked input b (buffers store (set b.state 1 (chosen is (branch_meaning s.branch))) b.output) answer notes (work_of input b (statement_meaning table (statements.Scan s)))
unfolding execution pure state_in
scan_works {p} {input} {b} stands table s {store} {notes = notes} f =
    let e = f.ended in
    let to = scanned_to e.scanned.split (branch_meaning s.branch) in
    let goes = ap (λ t. chosen t (branch_meaning s.branch)) (sym f.found) ∙ goes_to e.scanned.split (branch_meaning s.branch) in
    record {
      machine = _;
      scanned = e.scanned;
      work = bound _ _ (record { memory = memory_in store b.state; scanned = e.scanned }) notes _ e.work refl;
      left_is =
          ap (λ (n : ℕ). buffers store (set b.state 1 n) b.output) goes
          ∙ scans p input b stands store to e.stays;
      answer_is = ap (λ (l : List ℕ). set l 3 notes) e.answer_is ∙ answer_noted e.scanned 0 notes;
    }

-- a scan that is stopped
pub scan_stops : (input : List ℕ) (b : Buffers) (table : List ℕ) (s : Scan) (store : List ℕ) (k : ℕ) → store ≡ b.store
    → scanning_of table b.store b.state s ≡ stop k
    → Unmoved b (buffers store b.state b.output) k (work_of input b (statement_meaning table (statements.Scan s)))
unfolding execution state_in
scan_stops input b table s store k same w =
    record { work = stopped _ _ k w; same = ap (λ (l : List ℕ). buffers l b.state b.output) same }

-- zeros are a good store
pub zeros_good : StoreGood (replicate store_size 0)
zeros_good =
    subst StoreGood (append-nil (store_image (replicate 32 [])) ∙ fresh-image 32) (image_good (replicate 32 []) [] refl
    (replicate_everywhere (λ (v : List ℕ). length v ≤ 1024) 32 [] (omega arith)))

-- what the tests of check_fit tell
refused_as : (small rules store state : Bool) (n m : ℕ) → m ≡ cond small 2 (cond rules 13 (cond store 14 (cond state 15 0))) → 0 < m
    → cond small 2 (cond rules 13 (cond store 14 (cond state 15 n))) ≡ m
refused_as true rules store state n m e h = sym e
refused_as false true store state n m e h = sym e
refused_as false false true state n m e h = sym e
refused_as false false false true n m e h = sym e
refused_as false false false false n m e h = absurd (omega arith)

module _ (table input : List ℕ) (b : Buffers) where
  -- buffers that are unfit turn the step down, and are left as they were
  pub unfit_answers : (n : ℕ) → n ≡ unfit_number table b.store b.state (length input) (length b.output) → 0 < n
      → {number : ℕ} {answer : List ℕ} → number ≡ n → answer ≡ replicate 24 0 → StepAnswers (step_call current table input b) number answer b
  unfolding step_call step_refusal out_of_range current
  unfit_answers n e h is zeros =
      let refusal : step_refusal current table input b ≡ n =
      refused_as (ltb (length table) table_size) (not (keeps_rules current table)) (not (store_keeps b.store)) (out_of_range current table input b)
      (turned_down_by (program_in table) (given_in current table input b)) n e h in
      let some : eqb n 0 ≡ false = ne_eqb n 0 (λ z. omega arith) in
      let went = step_done current table input b (step current (program_in table) (length b.output) (given_in current table input b)) in
      let called : step_call current table input b ≡ record { number = n; answer = no_answer; left = b } =
      ap (λ (k : ℕ). cond (eqb k 0) went (record { number = k; answer = no_answer; left = b })) refusal
      ∙ ap (λ (x : Bool). cond x went (record { number = n; answer = no_answer; left = b })) some in
      rw called (record { number_is = is; answer_is = zeros ∙ silent_zeros; left_is = refl })

  -- and those that aren't are given to the machine
  pub fit_given : 0 ≡ unfit_number table b.store b.state (length input) (length b.output) → length b.state ≡ 64 → Given table input b
  fit_given e size =
      let tests = refusal_none (ltb (length table) table_size) (keeps_rules current table) (store_keeps b.store)
      (not (state_keeps current (length (program_in table).steps) (length input) (length b.output) b.state)) 0 (sym e) in
      record {
        bytes = ltb-false _ _ tests.0;
        keeps = tests.1;
        store_good_lem = tests.2;
        size = size;
        range = not-false _ tests.3;
      }
