-- A step call on buffers that hold a machine does what the machine's step does, and leaves buffers that hold what it left.
-- Assumes nothing.
use Rattle.std.proofs.Math.Bool.{Bool, true, false, cond}
use Rattle.std.specs.Prelude.{not, ◌&&◌, List, ◌≡◌, ltb, eqb, length}
use Rattle.std.proofs.Common.{sym, ◌∙◌, le-ltb}
use Rattle.std.proofs.Math.Path.{ap, ap₂, subst}
use Prim.Native.Nat.{ℕ, ◌≤◌, ◌<◌}
use Rattle.std.proofs.lemmas.Bool.{lt-leb}
use Rattle.base.specs.Choice.{test_cases}
use Rattle.base.specs.Edition.{Edition}
use Rattle.syntax.specs.Program.{Program}
use Rattle.machine.specs.State.{State, most_strings}
use Rattle.machine.specs.Step.{no_scan, turned_down_by, Stepped, step}
use Rattle.machine.specs.StepEnds.{step-turned}
use Rattle.scanning.specs.Call.{answer_numbers, no_answer, split_numbers}
use Rattle.values.specs.Conversion.{longest_string}
use Rattle.encoding.specs.Buffers.{store_size, store_keeps, cells_keep, state_keeps}
use Rattle.calls.specs.Calls.{Buffers, StepCalled, given_in, out_of_range, step_refusal, step_done, step_call}
use Rattle.calls.specs.Holding.{Holding, left-holds}
use Rattle.calls.specs.Invariant.{StateSound, step_sound}
use Rattle.encoding.specs.ProgramLaws.{Runs}
use Rattle.encoding.specs.Numerals.{bias}
use Rattle.encoding.specs.Rules.{keeps_rules}
use Rattle.encoding.specs.TableReading.{program_in}

-- a table that keeps its rules and holds the program p
pub record Tabled (e : Edition) (p : Program) (table : List ℕ) : Type 0 where
  pub size : e.table_size ≤ length table
  pub keeps : keeps_rules e table ≡ true
  pub reads : program_in table ≡ p

-- a call that nothing but the machine turns down
refusal_last : (small rules store range : Bool) (n : ℕ) → small ≡ false → rules ≡ true → store ≡ true → range ≡ true
    → cond small 2 (cond (not rules) 13 (cond (not store) 14 (cond (not range) 15 n))) ≡ n
refusal_last small rules store range n h g k j = rw (h, g, k, j)

-- a call with a bad store
refusal_store : (small rules store : Bool) (n : ℕ) → small ≡ false → rules ≡ true → store ≡ false
    → cond small 2 (cond (not rules) 13 (cond (not store) 14 n)) ≡ 14
refusal_store small rules store n h g k = rw (h, g, k)

-- the table holds the program p
module _ (e : Edition) (p : Program) (table input : List ℕ) (t : Tabled e p table) where
  -- a store too small turns every step down
  small_refused : (b : Buffers) → length b.store < store_size → step_refusal e table input b ≡ 14
  unfolding step_refusal store_keeps
  small_refused b small =
      refusal_store (ltb (length table) e.table_size) (keeps_rules e table) (store_keeps b.store) _
      (le-ltb (length table) e.table_size t.size)
      t.keeps
      (ap (λ x. x && cells_keep b.store 0 most_strings) (lt-leb store_size (length b.store) small))

  -- and leaves everything as it was
  pub small_called : (b : Buffers) → length b.store < store_size
      → step_call e table input b ≡ record { number = 14; answer = no_answer; left = b }
  unfolding step_call
  small_called b small =
      let went = step_done e table input b (step e (program_in table) (length b.output) (given_in e table input b)) in
      ap (λ n. cond (eqb n 0) went (record { number = n; answer = no_answer; left = b })) (small_refused b small)

  -- buffers b that hold a machine c
  module _ (lent : ℕ) (c : State) (b : Buffers) (h : Holding e p lent input c b) where
    -- only the machine itself turns the step down
    refusal_held : step_refusal e table input b ≡ turned_down_by p c
    unfolding step_refusal out_of_range given_in
    refusal_held =
        let range : state_keeps e (length (program_in table).steps) (length input) (length b.output) b.state ≡ true =
        ap₂ (λ (q : Program) (n : ℕ). state_keeps e (length q.steps) (length input) n b.state) t.reads h.output_length
        ∙ h.state_good in
        refusal_last (ltb (length table) e.table_size) (keeps_rules e table) (store_keeps b.store) _ _
        (le-ltb (length table) e.table_size t.size) t.keeps h.store_good range
        ∙ ap₂ turned_down_by t.reads h.given

    -- the call in terms of the machine's step
    pub call_held : (goes : Bool) → eqb (turned_down_by p c) 0 ≡ goes
        → step_call e table input b
        ≡ cond goes (step_done e table input b (step e p lent c)) (record { number = turned_down_by p c; answer = no_answer; left = b })
    unfolding step_call given_in
    call_held goes q =
        let went : ℕ → Bool → Stepped → StepCalled =
        λ n x s. cond x (step_done e table input b s) (record { number = n; answer = no_answer; left = b }) in
        let calls : step_call e table input b ≡ went (turned_down_by p c) (eqb (turned_down_by p c) 0) (step e p lent c) =
        λ i. went (refusal_held i) (eqb (refusal_held i) 0) (step e (t.reads i) (h.output_length i) (h.given i)) in
        calls ∙ ap (λ x. went (turned_down_by p c) x (step e p lent c)) q

    -- the answer's numbers are those of the machine's answer
    pub call_answer : (let a = (step e p lent c).answer in (step_call e table input b).answer ≡ answer_numbers a.notes a.scanned)
    unfolding step_done step answer_numbers no_answer no_scan split_numbers
    call_answer =
        let a = (step e p lent c).answer in
        test_cases (λ _. (step_call e table input b).answer ≡ answer_numbers a.notes a.scanned) (eqb (turned_down_by p c) 0)
        (λ q. ap (λ k. k.answer) (call_held true q))
        (λ q. ap (λ k. k.answer) (call_held false q) ∙ ap (λ s. answer_numbers s.answer.notes s.answer.scanned) (sym (step-turned e p lent c q)))

  -- numbers fit their places, a string's length is a number, and p is a program in range
  module _ (limit : e.limit < bias) (wide : longest_string ≤ e.limit) (runs : Runs e p) (lent : ℕ) where
    -- the buffers left hold the machine left
    pub step-holds : (c : State) (b : Buffers) → StateSound e p lent input c → Holding e p lent input c b
        → Holding e p lent input (step e p lent c).state (step_call e table input b).left
    unfolding step_done
    step-holds c b s h =
        let Held : StepCalled → Type 0 = λ x. Holding e p lent input (step e p lent c).state x.left in
        test_cases (λ _. Held (step_call e table input b)) (eqb (turned_down_by p c) 0)
        (λ q.
        subst Held (sym (call_held lent c b h true q))
        (left-holds e limit p lent input (step e p lent c).state (step_sound e wide p runs lent input c s) b h.state_length h.output_length))
        (λ q.
        subst Held (sym (call_held lent c b h false q))
        (subst (λ x. Holding e p lent input x b) (sym (ap (λ s. s.state) (step-turned e p lent c q))) h))
