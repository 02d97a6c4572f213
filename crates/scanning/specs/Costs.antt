-- Document 02, wish 8 "How many trials a line can cost": the size of a scan, and the most trials that a scan of that size makes.
-- Assumes nothing.
use Rattle.std.specs.Prelude.{List, [], ◌∷◌, ℕ, suc, ◌+◌, ◌*◌, ◌≤◌, length}
use Rattle.scanning.specs.Splits.{Element, string, fixed, free}

-- W8.2 "elements that aren't free fillers": strings, null ones among them, and fixed fillers
unfoldable pub tested_elements : List Element → ℕ
tested_elements [] = 0
tested_elements (string w ∷ p) = suc (tested_elements p)
tested_elements (fixed n ∷ p) = suc (tested_elements p)
tested_elements (free ∷ p) = tested_elements p

-- W8.2 "a reference of n bytes and a pattern with m elements that aren't free fillers": free fillers are never tested, the others are
pub record ScanSize : Type 0 where
  pub n : ℕ
  pub m : ℕ

unfoldable pub scan_size : List Element → List ℕ → ScanSize
scan_size p r = record { n = length r; m = tested_elements p }

-- W8.2 "m × (n + 1)"
unfoldable pub most_trials : ScanSize → ℕ
most_trials s = s.m * (s.n + 1)

-- W8.2 "the trials .. never exceed m × (n + 1)". The promises of the scan call, of a step and of a run all say it by this name. Where a wish takes
-- scans out of the bound (W9.7), their size says so, and the premise goes here.
unfoldable pub TrialsWithin : ScanSize → ℕ → Type 0
TrialsWithin s trials = trials ≤ most_trials s
