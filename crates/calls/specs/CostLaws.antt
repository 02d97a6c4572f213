-- A step call answers no more trials than the size of its scan allows, whatever it is given, and k of them no more than k × 20 × 1,025. Assumes
-- nothing.
use Rattle.std.specs.Prelude.{true, List, [], ◌∷◌, ◌≡◌, ℕ, zero, suc, ◌+◌, ◌*◌, ◌≤◌, length, get_or}
use Rattle.std.proofs.Math.Nat.{mul-le-mul}
use Rattle.std.proofs.Math.Option.{Option, none, some}
use Rattle.std.proofs.Common.{sym, subst, arith}
use borrow.Author.Tests.{leb-true}
use Rattle.base.specs.Edition.{Edition}
use Rattle.base.specs.Limits as Limits
use Rattle.syntax.specs.Program as Program
use Rattle.syntax.specs.Program.{Part, whole, first, PatternElement, value, free_filler, fixed_filler, Statement, set_number, set_string, goto}
use Rattle.syntax.specs.Program.{finish, if_test, read, write, execute, return, Program}
use Rattle.machine.specs.Costs.{pattern_tested, reference_bytes, statement_size, scan_size_in, StepWithin}
use Rattle.machine.specs.CostLaws.{none_within, step_within}
use Rattle.machine.specs.State.{Memory, string_at}
use Rattle.machine.specs.Step.{statement_at, step}
use Rattle.scanning.specs.Call.{no_answer, split_numbers, trials_in}
use Rattle.scanning.specs.Costs.{ScanSize, most_trials, TrialsWithin}
use Rattle.scanning.specs.CostLaws.{trials_back}
use Rattle.encoding.specs.BufferLaws.{StringsShort, good_short, keeps_good}
use Rattle.encoding.specs.Buffers.{strings_in, state_in}
use Rattle.encoding.specs.ProgramLaws.{program_runs, statement_holds_lem}
use Rattle.encoding.specs.RuleLaws.{scan-parts}
use Rattle.encoding.specs.Rules.{statement_holds}
use Rattle.encoding.specs.TableLaws.{keeps_image}
use Rattle.encoding.specs.TableReading.{program_in}
use Rattle.calls.specs.Calls.{Buffers, given_in, step_done, step_call}
use Rattle.calls.specs.Cases.{by_refusal}
use Rattle.calls.specs.Costs.{steps_size, size_given, trials_after}
use Rattle.calls.specs.GivenLaws.{Unrefused}

-- no more elements of a pattern are tested than it has
tested_count : (xs : List PatternElement) → pattern_tested xs ≤ length xs
unfolding pattern_tested
tested_count [] = omega arith
tested_count (value x ∷ xs) = omega (arith, tested_count xs)
tested_count (free_filler s ∷ xs) = omega (arith, tested_count xs)
tested_count (fixed_filler s n ∷ xs) = omega (arith, tested_count xs)

-- a reference is no longer than its string
reference_limited : (m : Memory) (q : Part) → StringsShort m.strings → reference_bytes m q ≤ Limits.string_bytes
unfolding reference_bytes string_at
reference_limited m (whole s) short = short s
reference_limited m (first s n) short = omega (arith, short s)

-- a scan with at most 20 elements that are tested, in at most 1,024 bytes, if it is one
Limited : Option ScanSize → Type 0
Limited none = Unit {0}
Limited (some s) = (s.n ≤ Limits.string_bytes) × (s.m ≤ Limits.row_elements)

-- so is the scan of a statement that holds
statement_limited : (e : Edition) (strings numbers steps : ℕ) (m : Memory) (x : Statement) → StringsShort m.strings
    → statement_holds e strings numbers steps x ≡ true → Limited (scan_size_in m x)
unfolding scan_size_in statement_size Limited
statement_limited e strings numbers steps m (set_number i x) short holds = tt
statement_limited e strings numbers steps m (set_string p xs) short holds = tt
statement_limited e strings numbers steps m (goto k) short holds = tt
statement_limited e strings numbers steps m finish short holds = tt
statement_limited e strings numbers steps m (if_test t b) short holds = tt
statement_limited e strings numbers steps m (Program.scan d p xs r b) short holds =
    let few = leb-true _ _ (scan-parts e strings numbers steps d p xs r b holds).few in
    (reference_limited m p short, omega (arith, tested_count xs, few))
statement_limited e strings numbers steps m (read p b) short holds = tt
statement_limited e strings numbers steps m (write xs) short holds = tt
statement_limited e strings numbers steps m (execute k) short holds = tt
statement_limited e strings numbers steps m return short holds = tt

-- within such a size are at most as many trials as one step may make
limited_within : (s : Option ScanSize) (trials : ℕ) → Limited s → StepWithin s trials → TrialsWithin (steps_size 1) trials
unfolding Limited StepWithin TrialsWithin most_trials steps_size
limited_within none trials limited within = omega arith
limited_within (some s) trials limited within =
    let places : s.n + 1 ≤ Limits.string_bytes + 1 = omega (arith, limited.0) in
    let most : s.m * (s.n + 1) ≤ Limits.row_elements * (Limits.string_bytes + 1) = mul-le-mul limited.1 places in
    omega arith

module _ (e : Edition) (table input : List ℕ) where
  -- W8.2 of the step call
  pub call_within : (b : Buffers) → StepWithin (size_given e table input b) (trials_in (step_call e table input b).answer)
  unfolding size_given step_done given_in state_in trials_in no_answer split_numbers
  call_within b =
      let size = size_given e table input b in
      let p = program_in table in
      let c = given_in e table input b in
      let a = (step e p (length b.output) c).answer in
      by_refusal e table input b (λ s. StepWithin size (trials_in s.answer)) (λ _. none_within size)
      (λ _. subst (StepWithin size) (sym (trials_back a.notes a.scanned)) (step_within e p (length b.output) c))

  -- where nothing refuses the step, its scan keeps to the limits
  given_limited : (b : Buffers) → Unrefused e table input b → Limited (size_given e table input b)
  unfolding size_given given_in state_in strings_in statement_at string_at
  given_limited b u =
      let p = program_in table in
      let runs = program_runs e p (keeps_image e table u.tabled.keeps).0 in
      statement_limited e p.strings p.numbers (length p.steps) (given_in e table input b).memory (statement_at p (get_or b.state 1 0))
      (good_short b.store (keeps_good b.store u.store_good))
      (statement_holds_lem e p.strings p.numbers (length p.steps) p.steps (get_or b.state 1 0) runs.hold)

  -- so a step makes at most 20 × 1,025 trials
  pub call_most : (b : Buffers) → TrialsWithin (steps_size 1) (trials_in (step_call e table input b).answer)
  unfolding TrialsWithin trials_in no_answer split_numbers
  call_most b =
      let size = size_given e table input b in
      by_refusal e table input b (λ s. StepWithin size (trials_in s.answer) → TrialsWithin (steps_size 1) (trials_in s.answer))
      (λ _ _. omega arith) (λ u within. limited_within size _ (given_limited b u) within) (call_within b)

  -- and k steps at most k × 20 × 1,025
  pub after_within : (k : ℕ) (b : Buffers) → TrialsWithin (steps_size k) (trials_after e table input k b)
  unfolding TrialsWithin most_trials steps_size trials_after
  after_within zero b = omega arith
  after_within (suc k) b = omega (arith, call_most b, after_within k (step_call e table input b).left)
