-- Document 02, wish 8, of the machine: the size of the scan that a statement is, told by the memory that its step is given. Assumes nothing.
use Rattle.std.specs.Prelude.{List, [], ◌∷◌, ◌≡◌, ℕ, suc, min, nat_abs, length}
use Rattle.std.proofs.Math.Option.{Option, none, some}
use Rattle.syntax.specs.Program as Program
use Rattle.syntax.specs.Program.{Part, whole, first, PatternElement, value, free_filler, fixed_filler, Statement, set_number, set_string, goto}
use Rattle.syntax.specs.Program.{finish, if_test, read, write, execute, return}
use Rattle.scanning.specs.Costs.{ScanSize, TrialsWithin}
use Rattle.machine.specs.Expressions.{length_in}
use Rattle.machine.specs.State.{Memory, string_at}

-- W8.2 "elements that aren't free fillers", of a statement's pattern: strings and fixed fillers, also one whose length turns out to be negative (N4)
unfoldable pub pattern_tested : List PatternElement → ℕ
pattern_tested [] = 0
pattern_tested (value x ∷ xs) = suc (pattern_tested xs)
pattern_tested (free_filler s ∷ xs) = pattern_tested xs
pattern_tested (fixed_filler s n ∷ xs) = suc (pattern_tested xs)

-- W8.2 "a reference of n bytes", as restricted: the whole string or, V5, its first or last n bytes, V3 "all if shorter". A negative n stops the
-- step (Q17); here it counts without its sign.
unfoldable pub reference_bytes : Memory → Part → ℕ
reference_bytes m (whole s) = length (string_at m s)
reference_bytes m (first s n) = min (nat_abs (length_in m n)) (length (string_at m s))

-- the size of a SCAN or BACKSCAN of this part by this pattern
unfoldable pub statement_size : Memory → Part → List PatternElement → ScanSize
statement_size m p xs = record { n = reference_bytes m p; m = pattern_tested xs }

-- the size of the scan that a statement is in a memory, if it is one
unfoldable pub scan_size_in : Memory → Statement → Option ScanSize
scan_size_in m (set_number i x) = none
scan_size_in m (set_string p xs) = none
scan_size_in m (goto k) = none
scan_size_in m finish = none
scan_size_in m (if_test t b) = none
scan_size_in m (Program.scan d p xs r b) = some (statement_size m p xs)
scan_size_in m (read p b) = none
scan_size_in m (write xs) = none
scan_size_in m (execute k) = none
scan_size_in m return = none

-- W8.2 of a step: no more trials than the size of its scan allows, and 0 if it holds none
unfoldable pub StepWithin : Option ScanSize → ℕ → Type 0
StepWithin none trials = trials ≡ 0
StepWithin (some s) trials = TrialsWithin s trials
