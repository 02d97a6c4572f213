-- The claim about lists of calls that keep their equations, proved of every table that keeps its rules; the customer's third demand is the case
-- of an accepted deck's table. Assumes nothing; every edition whose sizes fit is covered, and the current one is among them.
use Rattle.std.proofs.Math.Bool.{true, false}
use Rattle.std.specs.Prelude.{not, ◌≡◌, ltb, eqb, get_or, set}
use mathlib.Core.List.{List, [], ◌∷◌, ◌++◌}
use Rattle.std.proofs.Math.Logic.{⊎_elim}
use Rattle.std.proofs.Math.Option.{Option, none}
use Rattle.std.proofs.Math.Path.{refl, sym, ap, ap₂, subst, subst₂}
use Rattle.std.proofs.Common.{◌∙◌, arith, get_or-set_same, get_or-set_other}
use Prim.Native.Nat.{ℕ, zero, suc, ◌+◌, ◌≤◌, ◌<◌}
use Rattle.std.proofs.Math.ListN.{length, length-set, get_or-eq_default}
use borrow.Author.Tests.{ltb-true, ltb-false, lt-ltb, eqb-true, eqb-false, not-true}
use Rattle.base.specs.Choice.{test_cases, both_true}
use Rattle.base.specs.Edition.{Edition}
use Rattle.base.specs.Lists.{all}
use Rattle.validation.specs.Deck.{accepted, judge}
use Rattle.syntax.specs.Program as Program
use Rattle.syntax.specs.Program.{Part, PatternElement, value, free_filler, fixed_filler, Direction, Branch, Program}
use Rattle.machine.specs.Run.{state_after, run}
use Rattle.machine.specs.Scanning.{without_fillers}
use Rattle.machine.specs.State.{Memory, State, string_at, with_string, most_strings, fresh}
use Rattle.scanning.specs.Call.{split_in}
use Rattle.scanning.specs.Splits.{Split}
use Rattle.machine.specs.Step.{execution, statement_at, turned_down_by, concluded, step}
use Rattle.values.specs.Conversion.{longest_string}
use Rattle.calls.specs.Accepted.{accepted_is_program}
use Rattle.encoding.specs.Buffers.{store_size, state_in}
use Rattle.calls.specs.Calls.{read_call, StartCalled, start_call, Buffers, given_in}
use Rattle.calls.specs.Calls.{StepCalled, step_done, step_call, buffers_after, RunReturned, result_numbers, returned, run_ended, run_call}
use Rattle.calls.specs.Demands.{LeftBy, ScanClaim, IsFiller, Fails, Observed, observed_step, observed_run, steps_tried}
use Rattle.calls.specs.Demands.{StepClaim, RunClaim, ListClaim, AllRefused, Linked, TableClaim, History, Demand3}
use Rattle.calls.specs.GivenLaws.{held-written}
use Rattle.calls.specs.Holding.{Holding}
use Rattle.calls.specs.Invariant.{StateSound, returns_enough, next_sound, step_sound, fresh_sound}
use Rattle.encoding.specs.ProgramLaws.{Runs, statement_holds_lem, program_runs}
use Rattle.encoding.specs.Numerals.{bias}
use Rattle.encoding.specs.RuleLaws.{scan-parts, length_holds, fixed_holds}
use Rattle.encoding.specs.Rules.{pattern_holds, statement_holds, place_of, named_by, is_among, roles_hold, is_program, keeps_rules}
use Rattle.calls.specs.ScanLaws.{concluded_scans}
use Rattle.calls.specs.RunLaws.{call_numbers, run-same, run-left, small_run}
use Rattle.calls.specs.StartLaws.{read_accepted, read_short, read_tabled, started_with, started_small, started_holds}
use Rattle.calls.specs.StepLaws.{Tabled, small_called, call_held, call_answer, step-holds}
use Rattle.encoding.specs.Table.{literals_at}
use Rattle.encoding.specs.TableLaws.{in_range_lem, keeps_image}
use Rattle.encoding.specs.TableReading.{program_in}

-- a string made null leaves every other
null_apart : (s place : ℕ) (m : Memory) → not (eqb s place) ≡ true → string_at (with_string m s []) place ≡ string_at m place
unfolding string_at with_string
null_apart s place m h =
    get_or-set_other m.strings s place [] [] (λ q. eqb-false s place (not-true (eqb s place) h) (sym q))

-- fillers made null leave a string that is none of them
fillers_apart : (place : ℕ) (fs : List ℕ) (xs : List PatternElement) (m : Memory) → roles_hold place fs xs ≡ true
    → string_at (without_fillers xs m) place ≡ string_at m place
unfolding roles_hold without_fillers string_at with_string
fillers_apart place fs [] m h = refl
fillers_apart place fs (value x ∷ xs) m h =
    fillers_apart place fs xs m (both_true (not (is_among fs (named_by x))) (roles_hold place fs xs) h).1
fillers_apart place fs (free_filler s ∷ xs) m h =
    let both = both_true (not (eqb s place)) (roles_hold place (s ∷ fs) xs) h in
    fillers_apart place (s ∷ fs) xs (with_string m s []) both.1 ∙ null_apart s place m both.0
fillers_apart place fs (fixed_filler s n ∷ xs) m h =
    let both = both_true (not (eqb s place)) (roles_hold place (s ∷ fs) xs) h in
    fillers_apart place (s ∷ fs) xs (with_string m s []) both.1 ∙ null_apart s place m both.0

-- a null string stays null when another, or the same, is made null
null_with : (s t : ℕ) (m : Memory) → string_at m s ≡ [] → string_at (with_string m t []) s ≡ []
unfolding string_at with_string
null_with s t m h =
    test_cases (λ _. get_or (set m.strings t []) s [] ≡ []) (ltb s (length m.strings))
    (λ q.
    test_cases (λ _. get_or (set m.strings t []) s [] ≡ []) (eqb s t)
    (λ z. subst (λ (i : ℕ). get_or (set m.strings i []) s [] ≡ []) (eqb-true s t z) (get_or-set_same m.strings s [] [] (ltb-true _ _ q)))
    (λ z. get_or-set_other m.strings t s [] [] (eqb-false s t z) ∙ h))
    (λ q.
    let behind = ltb-false s (length m.strings) q in
    get_or-eq_default (set m.strings t []) [] (omega (arith, length-set m.strings t [])))

null_stays : (s : ℕ) (xs : List PatternElement) (m : Memory) → string_at m s ≡ [] → string_at (without_fillers xs m) s ≡ []
unfolding without_fillers
null_stays s [] m h = h
null_stays s (value x ∷ xs) m h = null_stays s xs m h
null_stays s (free_filler t ∷ xs) m h = null_stays s xs (with_string m t []) (null_with s t m h)
null_stays s (fixed_filler t n ∷ xs) m h = null_stays s xs (with_string m t []) (null_with s t m h)

-- a filler of a pattern is made null
module _ (e : Edition) (strings numbers steps : ℕ) where
  made_null : (s t : ℕ) (xs : List PatternElement) (m : Memory) → s ≡ t → t < length m.strings
      → string_at (without_fillers xs (with_string m t [])) s ≡ []
  unfolding string_at with_string
  made_null s t xs m same inside =
      subst (λ (i : ℕ). string_at (without_fillers xs (with_string m t [])) i ≡ []) (sym same)
      (null_stays t xs (with_string m t []) (get_or-set_same m.strings t [] [] inside))

  free_holds : (t : ℕ) → pattern_holds e strings numbers steps (free_filler t) ≡ true → ltb t strings ≡ true
  unfolding pattern_holds
  free_holds t h = h

  filler_null : (s : ℕ) (xs : List PatternElement) (m : Memory) → strings ≤ length m.strings
      → all (pattern_holds e strings numbers steps) xs ≡ true → IsFiller s xs → string_at (without_fillers xs m) s ≡ []
  unfolding all without_fillers with_string IsFiller
  filler_null s [] m enough h f = absurd f
  filler_null s (value x ∷ xs) m enough h f =
      filler_null s xs m enough
      (both_true (pattern_holds e strings numbers steps (value x)) (all (pattern_holds e strings numbers steps) xs) h).1 f
  filler_null s (free_filler t ∷ xs) m enough h f =
      let both = both_true (pattern_holds e strings numbers steps (free_filler t)) (all (pattern_holds e strings numbers steps) xs) h in
      let inside = ltb-true t strings (free_holds t both.0) in
      ⊎_elim (λ same. made_null s t xs m same (omega arith))
      (λ later. filler_null s xs (with_string m t []) (omega (arith, length-set m.strings t [])) both.1 later) f
  filler_null s (fixed_filler t n ∷ xs) m enough h f =
      let both = both_true (pattern_holds e strings numbers steps (fixed_filler t n)) (all (pattern_holds e strings numbers steps) xs) h in
      let length = length_holds e strings numbers steps n in
      let inside = ltb-true t strings (both_true (ltb t strings) length (sym (fixed_holds e strings numbers steps t n) ∙ both.0)).0 in
      ⊎_elim (λ same. made_null s t xs m same (omega arith))
      (λ later. filler_null s xs (with_string m t []) (omega (arith, length-set m.strings t [])) both.1 later) f

-- numbers fit their places, a string's length is a number, p is a program in range, and the table holds it
module _ (e : Edition) (limit : e.limit < bias) (wide : longest_string ≤ e.limit) (p : Program) (runs : Runs e p)
    (table input : List ℕ) (t : Tabled e p table) where
  -- buffers b that hold a machine c in range
  module _ (lent : ℕ) (c : State) (b : Buffers) (s : StateSound e p lent input c) (h : Holding e p lent input c b) where
    -- a scanning step on them that is neither stopped nor turned down
    scans_held : (d : Direction) (q : Part) (xs : List PatternElement) (r : Option (List Program.Element)) (f : Branch)
        → statement_at p c.next ≡ Program.scan d q xs r f
        → (step_call e table input b).number ≡ 0
        → ScanClaim e c.memory d q xs r (step_call e table input b).answer (given_in e table input (step_call e table input b).left).memory
    unfolding step step_done given_in
    scans_held d q xs r f is passes =
        let left = (step_call e table input b).left in
        test_cases (λ _. ScanClaim e c.memory d q xs r (step_call e table input b).answer (given_in e table input left).memory)
        (eqb (turned_down_by p c) 0)
        (λ goes.
        let w = execution e lent (Program.scan d q xs r f) c in
        let stepped : step e p lent c ≡ concluded c w = rw (goes, is) in
        let called : step_call e table input b ≡ step_done e table input b (concluded c w) =
        call_held e p table input t lent c b h true goes ∙ ap (step_done e table input b) stepped in
        let ended = rw is at (next_sound e wide p runs lent input c s (returns_enough p c (eqb-true (turned_down_by p c) 0 goes))) in
        let number : (concluded c w).answer.number ≡ 0 = sym (ap (λ x. x.number) called) ∙ passes in
        let held = (step-holds e p table input t limit wide runs lent c b s h).given in
        subst₂ (ScanClaim e c.memory d q xs r) (sym (ap (λ x. x.answer) called))
        (sym (ap (λ x. x.memory) held ∙ ap (λ x. x.state.memory) stepped))
        (concluded_scans e lent c d q xs r f w refl ended number))
        (λ goes.
        let number : turned_down_by p c ≡ 0 = sym (ap (λ x. x.number) (call_held e p table input t lent c b h false goes)) ∙ passes in
        absurd (eqb-false (turned_down_by p c) 0 goes number))

    -- where such a step finds no split, the fillers are null and the string searched is as before
    failure_held : (d : Direction) (q : Part) (xs : List PatternElement) (r : Option (List Program.Element)) (f : Branch)
        → statement_at p c.next ≡ Program.scan d q xs r f
        → (step_call e table input b).number ≡ 0
        → get_or (step_call e table input b).answer 0 0 ≡ 0
        → Fails c.memory q xs (given_in e table input (step_call e table input b).left).memory
    unfolding LeftBy split_in statement_at most_strings
    failure_held d q xs r f is passes fails =
        let claim = scans_held d q xs r f is passes in
        let unfound : split_in (length claim.valued) (step_call e table input b).answer ≡ none = rw (fails, split_in) in
        let left = subst (λ (o : Option Split). LeftBy e c.memory d xs r claim.searched claim.valued o
        (given_in e table input (step_call e table input b).left).memory) unfound claim.leaves in
        let steps = length p.steps in
        let holds = statement_holds_lem e p.strings p.numbers steps p.steps c.next runs.hold in
        let scan-holds = subst (λ (x : Program.Statement). statement_holds e p.strings p.numbers steps x ≡ true) is holds in
        let parts = scan-parts e p.strings p.numbers steps d q xs r f scan-holds in
        let few : p.strings ≤ 32 =
        subst (λ (x : Program). x.strings ≤ 32) t.reads (in_range_lem e (program_in table) (keeps_image e table t.keeps).0).strings in
        let enough : p.strings ≤ length c.memory.strings = omega (arith, s.memory.strings) in
        record {
          fillers =
              λ i filler.
              ap (λ (x : Memory). string_at x i) left
              ∙ filler_null e p.strings p.numbers steps i xs c.memory enough parts.patterns filler;
          reference =
              ap (λ (x : Memory). string_at x (place_of q)) left
              ∙ fillers_apart (place_of q) [] xs c.memory parts.roles;
        }

    -- the claim of a step on such buffers
    claim_held : StepClaim e p table input lent c b (step_call e table input b)
    unfolding given_in state_in
    claim_held =
        let left = step-holds e p table input t limit wide runs lent c b s h in
        record {
          number = (call_numbers e limit wide p runs table input t lent c b h).0;
          answer = call_answer e p table input t lent c b h;
          statement = ap₂ statement_at t.reads (ap (λ x. x.next) h.given);
          given = h.given;
          scans = scans_held;
          failure = failure_held;
          leaves = left.given;
          written = held-written e p lent input (step e p lent c).state (step_call e table input b).left left;
        }

  -- calls one behind the other: buffers b that hold a machine c in range, so the buffers left hold the machine left
  module _ (lent : ℕ) where
    pub record Behind (c : State) (b : Buffers) : Type 0 where
      pub sound : StateSound e p lent input c
      pub holds : Holding e p lent input c b

    pub behind-step : (c : State) (b : Buffers) → Behind c b → Behind (step e p lent c).state (step_call e table input b).left
    behind-step c b k =
        record {
          sound = step_sound e wide p runs lent input c k.sound;
          holds = step-holds e p table input t limit wide runs lent c b k.sound k.holds;
        }

    pub behind-steps : (k : ℕ) (c : State) (b : Buffers) → Behind c b → Behind (state_after e p lent k c) (buffers_after e table input k b)
    unfolding state_after buffers_after
    behind-steps zero c b h = h
    behind-steps (suc k) c b h = behind-steps k (step e p lent c).state (step_call e table input b).left (behind-step c b h)

    -- a run there
    behind-run : (count : ℕ) (c : State) (b : Buffers) → Behind c b
        → RunClaim e p table input lent count c b (returned (run_call e table input count b))
    unfolding returned result_numbers given_in
    behind-run count c b h =
        let same = run-same e limit wide p runs table input t lent count c b h.sound h.holds in
        record {
          number = refl;
          result = λ i. result_numbers (same.outcome i) (same.number i) (same.steps i) (same.notes i);
          steps =
              λ k _.
              let k-behind = behind-steps k c b h in
              claim_held lent (state_after e p lent k c) (buffers_after e table input k b) k-behind.sound k-behind.holds;
          left_is = run-left e table input count b;
          leaves = same.holds.given;
          written = held-written e p lent input (run e p lent count c).state (run_call e table input count b).left same.holds;
        }

    -- all calls of a list, each of which kept its equation
    list_claim : (calls : List Observed) (c : State) (b z : Buffers) → Behind c b → Linked e table input b calls z
        → ListClaim e p table input lent calls c
    unfolding ListClaim Linked
    list_claim [] c b z h linked = tt
    list_claim (observed_step given back ∷ calls) c b z h linked =
        let here = subst (Behind c) (sym linked.0) h in
        let next = subst (Behind (step e p lent c).state) (sym (ap (λ x. x.left) linked.1)) (behind-step c given here) in (
          subst (StepClaim e p table input lent c given) (sym linked.1) (claim_held lent c given here.sound here.holds),
          list_claim calls (step e p lent c).state back.left z next linked.2,
        )
    list_claim (observed_run count given back ∷ calls) c b z h linked =
        let here = subst (Behind c) (sym linked.0) h in
        let claim = subst (RunClaim e p table input lent count c given) (sym linked.1) (behind-run count c given here) in
        let next = subst (Behind (state_after e p lent (steps_tried back) c)) (sym claim.left_is) (behind-steps (steps_tried back) c given here) in
        (claim, list_claim calls (state_after e p lent (steps_tried back) c) back.left z next linked.2)

    -- what starting leaves with a large enough store, and the machine before its first step
    pub behind-start : (store output : List ℕ) → length output ≡ lent → store_size ≤ length store → Behind (fresh input) (started_with store output)
    behind-start store output is large =
        record {
          sound = fresh_sound e wide p runs lent input;
          holds =
              subst (λ n. Holding e p n input (fresh input) (started_with store output)) is
              (started_holds e limit wide p runs store input output large);
        }

  -- with a store too small every call is turned down, and leaves it so
  list_small : (calls : List Observed) (b z : Buffers) → length b.store < store_size → Linked e table input b calls z → AllRefused calls
  unfolding AllRefused Linked returned run_ended run_call
  list_small [] b z small linked = tt
  list_small (observed_step given back ∷ calls) b z small linked =
      let here = subst (λ (x : Buffers). length x.store < store_size) (sym linked.0) small in
      let is = linked.1 ∙ small_called e p table input t given here in
      let next = subst (λ (x : StepCalled). length x.left.store < store_size) (sym is) here in
      (is, list_small calls back.left z next linked.2)
  list_small (observed_run zero given back ∷ calls) b z small linked =
      let here = subst (λ (x : Buffers). length x.store < store_size) (sym linked.0) small in
      let next = subst (λ (x : RunReturned). length x.left.store < store_size) (sym linked.1) here in
      (linked.1, list_small calls back.left z next linked.2)
  list_small (observed_run (suc k) given back ∷ calls) b z small linked =
      let here = subst (λ (x : Buffers). length x.store < store_size) (sym linked.0) small in
      let is = linked.1 ∙ ap returned (small_run e p table input t given here k) in
      let next = subst (λ (x : RunReturned). length x.left.store < store_size) (sym is) here in
      (is, list_small calls back.left z next linked.2)

-- one list behind another
linked_more : (e : Edition) (table input : List ℕ) (calls more : List Observed) (b m z : Buffers) → Linked e table input b calls m
    → Linked e table input m more z → Linked e table input b (calls ++ more) z
unfolding Linked
linked_more e table input [] more b m z h g = subst (λ (x : Buffers). Linked e table input x more z) (sym h) g
linked_more e table input (observed_step given back ∷ calls) more b m z h g =
    (h.0, h.1, linked_more e table input calls more back.left m z h.2 g)
linked_more e table input (observed_run count given back ∷ calls) more b m z h g =
    (h.0, h.1, linked_more e table input calls more back.left m z h.2 g)

-- numbers fit their places, and a string's length is a number
module _ (e : Edition) (limit : e.limit < bias) (wide : longest_string ≤ e.limit) where
  -- R10 "It is one claim about the list": of every list of calls, each of which took all that the last one left (R8), from the store and state
  -- of starting, one input and one output lent (R7), on any table that has its size and keeps its rules; the statements, strings and numbers
  -- (R9) are those of the program that it holds
  pub sound_table_claim : (table input store output : List ℕ) (start : StartCalled) → e.table_size ≤ length table → keeps_rules e table ≡ true
      → start ≡ start_call store → (calls : List Observed) (left : Buffers)
      → Linked e table input (record { store = start.store; state = start.state; output = output }) calls left
      → TableClaim e table input store output calls
  unfolding started_with
  sound_table_claim table input store output start size keeps starts calls left linked =
      let p = program_in table in
      let runs = program_runs e p (keeps_image e table keeps).0 in
      let t : Tabled e p table = record { size = size; keeps = keeps; reads = refl } in
      let lent = length output in
      let first : Buffers = record { store = start.store; state = start.state; output = output } in
      let started : first ≡ started_with store output = ap (λ x. record { store = x.store; state = x.state; output = output }) starts in
      record {
        claim =
            λ large.
            list_claim e limit wide p runs table input t lent calls (fresh input) first left
            (subst (Behind e limit wide p runs table input t lent (fresh input)) (sym started)
            (behind-start e limit wide p runs table input t lent store output refl large))
            linked;
        small =
            λ less.
            let stays = started_small store output (lt-ltb (length store) store_size less) in
            let still : length first.store < store_size =
            subst (λ (l : List ℕ). length l < store_size) (sym (ap (λ (x : Buffers). x.store) started ∙ stays)) less in
            list_small e limit wide p runs table input t calls first left still linked;
      }

-- a table that holds the program of an accepted deck, which is in range
pub record Loaded (e : Edition) (deck table : List ℕ) : Type 0 where
  pub program : Program
  pub accepts : judge e deck ≡ accepted program
  pub runs : Runs e program
  pub tabled : Tabled e program table

-- the program of a deck that the deck call accepts is in range
accepted_inside : (e : Edition) (deck table : List ℕ) (p : Program) → judge e deck ≡ accepted p → (read_call e deck table).number ≡ 0
    → is_program e p ≡ true
accepted_inside e deck table p judged h = accepted_is_program e deck p (read_short e deck table h) judged

-- and tables have their sizes
module _ (e : Edition) (limit : e.limit < bias) (wide : longest_string ≤ e.limit) (size : literals_at + 4096 ≤ e.table_size) where
  -- the table of an accepted deck holds its program
  pub accepted_tabled : (deck table : List ℕ) (p : Program) → judge e deck ≡ accepted p → (read_call e deck table).number ≡ 0
      → Tabled e p (read_call e deck table).table
  accepted_tabled deck table p judged h = read_tabled e limit size deck table p (accepted_inside e deck table p judged h) judged h

  -- the table that the deck call leaves with 0 is such a one
  pub read_loaded : (deck table : List ℕ) → (read_call e deck table).number ≡ 0 → Loaded e deck (read_call e deck table).table
  read_loaded deck table h =
      let judged = read_accepted e deck table h in
      let p = judged.0 in
      record {
        program = p;
        accepts = judged.1;
        runs = program_runs e p (accepted_inside e deck table p judged.1 h);
        tabled = accepted_tabled deck table p judged.1 h;
      }

  -- whatever happened before a call, and the call
  module _ (table input : List ℕ) (b : Buffers) (h : History e table input b) where
    pub history_loaded : Loaded e h.deck table
    history_loaded =
        let number : (read_call e h.deck h.before).number ≡ 0 = sym (ap (λ x. x.number) h.read) in
        let left-table : (read_call e h.deck h.before).table ≡ table = sym (ap (λ x. x.table) h.read) in
        subst (Loaded e h.deck) left-table (read_loaded h.deck h.before number)

    pub history_linked : (call : Observed) (left : Buffers) → Linked e table input b (call ∷ []) left
        → Linked e table input (record { store = h.start.store; state = h.start.state; output = h.output }) (h.calls ++ (call ∷ [])) left
    history_linked call left kept =
        let first : Buffers = record { store = h.start.store; state = h.start.state; output = h.output } in
        linked_more e table input h.calls (call ∷ []) first b left h.linked kept

  -- demand 3, of every list that ends with a call which kept its equation: R7 "the table of an accepted deck" is a sound one, which holds
  -- the deck's program
  pub demand3 : (table input : List ℕ) (b : Buffers) (h : History e table input b) (call : Observed) (left : Buffers)
      → Linked e table input b (call ∷ []) left → Demand3 e table input h call
  demand3 table input b h call left kept =
      let l = history_loaded table input b h in
      let t = l.tabled in
      let calls = h.calls ++ (call ∷ []) in
      let sound = sound_table_claim e limit wide table input h.store h.output h.start t.size t.keeps h.started calls left
      (history_linked table input b h call left kept) in
      record {
        program = l.program;
        accepts = l.accepts;
        claim =
            λ large.
            subst (λ (x : Program). ListClaim e x table input (length h.output) calls (fresh input)) t.reads (sound.claim large);
        small = sound.small;
      }
