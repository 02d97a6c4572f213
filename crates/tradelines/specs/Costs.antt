-- Document 02, wish 8: scans that make as many trials as W8.2 lets them, m × (n + 1). Assumes nothing.
use Rattle.std.specs.Prelude.{Bool, true, false, ◌&&◌, List, [], ◌∷◌, ◌≡◌, refl, ℕ, eqb, pos, negsuc}
use Rattle.std.proofs.Math.Option.{none}
use Prim.Native.String.{String}
use Rattle.base.specs.Current.{current}
use Rattle.base.specs.Lists.{all}
use Rattle.base.specs.Text.{bytes}
use Rattle.computing.specs.{everything}
use Rattle.syntax.specs.Program.{constantly, Part, whole, first, literal, PatternElement, value, free_filler, fixed_filler, Direction, forward}
use Rattle.syntax.specs.Program.{backward}
use Rattle.machine.specs.Costs.{statement_size}
use Rattle.machine.specs.Scanning.{ScanLeft, scanning_in}
use Rattle.machine.specs.State.{with_string, fresh_memory}
use Rattle.scanning.specs.Costs.{most_trials}
use Rattle.scanning.specs.CostLaws.{costly_pattern, costly_reference, bound_reached}
use Rattle.scanning.specs.Trials.{scan}
use Rattle.values.specs.Result.{Result, done, stop}
use Rattle.tradelines.specs.Lines.{lit}

-- a SCAN or BACKSCAN of string 0, whole or in part, by a pattern, with the trials that it makes
pub data Costly : Type 0 where
  costs : Direction → String → Part → List PatternElement → (trials : ℕ) → Costly

abbrev null_string : PatternElement
null_string = value (literal [])

pub costly_lines : List Costly
costly_lines =
    -- m is 2, n is 2: a null string and "B" are tested at places 0, 1 and 2
    costs forward "AA" (whole 0) (null_string ∷ lit "B" ∷ []) 6
    ∷ costs backward "AA" (whole 0) (null_string ∷ lit "B" ∷ []) 6
    -- n is 3, as restricted
    ∷ costs forward "AAAAB" (first 0 (constantly (pos 3))) (null_string ∷ null_string ∷ lit "B" ∷ []) 12
    ∷ costs backward "BAAAA" (first 0 (constantly (pos 3))) (null_string ∷ null_string ∷ lit "B" ∷ []) 12
    -- and no more than the string has
    ∷ costs forward "AA" (first 0 (constantly (pos 9))) (null_string ∷ lit "B" ∷ []) 6
    -- free fillers in front and behind aren't among the m
    ∷ costs forward "AAA" (whole 0) (free_filler 1 ∷ null_string ∷ lit "B" ∷ free_filler 2 ∷ []) 8
    -- fixed ones are, that of a negative length too
    ∷ costs forward "AAA" (whole 0) (fixed_filler 1 (constantly (pos 0)) ∷ fixed_filler 2 (constantly (negsuc 4)) ∷ lit "B" ∷ []) 12
    ∷ []

is_cost : ℕ → ℕ → Result ScanLeft → Bool
is_cost trials most (done left notes) = eqb left.scanned.trials trials && eqb trials most
is_cost trials most (stop n) = false

pub costs_most : Costly → Bool
costs_most (costs d r p xs trials) =
    let m = with_string fresh_memory 0 (bytes r) in
    is_cost trials (most_trials (statement_size m p xs)) (scanning_in current m d p xs none)

-- W8.2's bound is reached
pub bound_met : all costs_most costly_lines ≡ true
unfolding costly_lines is_cost costs_most everything
bound_met = refl

-- and with 20 elements and 1,024 bytes, the most that a scan may have
pub most_met : (scan (costly_pattern 19) (costly_reference 1024)).trials ≡ 20500
unfolding most_trials
most_met = (bound_reached 19 1024).1
