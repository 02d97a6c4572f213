-- Document 01, "Scan": what SCAN and BACKSCAN make of a memory, in their order of work. Assumes nothing.
use Rattle.std.specs.Prelude.{cond, List, [], ◌∷◌, ◌++◌, map, reverse, ℕ, ◌+◌, ◌-◌, leb, ℤ, nat_abs, length, take, drop}
use Rattle.std.proofs.Math.Option.{Option, none, some}
use Rattle.base.specs.Edition.{Edition}
use Rattle.base.specs.Lists.{total}
use Rattle.syntax.specs.Program as Program
use Rattle.syntax.specs.Program.{Part, whole, first, PatternElement, value, free_filler, fixed_filler, Direction, forward, backward}
use Rattle.scanning.specs.Splits.{Element, string, fixed, free, Split}
use Rattle.scanning.specs.Trials.{Scanned, scan}
use Rattle.values.specs.Conversion.{longest_string}
use Rattle.values.specs.Numbers.{is_negative}
use Rattle.values.specs.Result.{Result, done, stop, ◌>>=◌, pure}
use Rattle.machine.specs.Expressions.{length_in, element_in, string_in}
use Rattle.machine.specs.State.{Memory, string_at, with_string}

-- The string searched in three stretches; the scan sees the middle one, document 01's reference (V5), turned round in a BACKSCAN.
pub record Searched : Type 0 where
  pub place : ℕ
  pub before : List ℕ
  pub reference : List ℕ
  pub behind : List ℕ

-- N7 "the reference is turned round" in a BACKSCAN; turned once more it is as it was, which turns it back (machine/Bounds: turned-twice)
unfoldable pub turned : Direction → List ℕ → List ℕ
turned forward r = r
turned backward r = reverse r

-- V5 "In SCAN it restricts the reference to the first n bytes, in BACKSCAN to the last n."
unfoldable pub restricted : Direction → ℕ → ℕ → List ℕ → Searched
restricted forward s n v = record { place = s; before = []; reference = take n v; behind = drop n v }
restricted backward s n v =
    record { place = s; before = take (length v - n) v; reference = drop (length v - n) v; behind = [] }

-- Q17 "The reference .. length is negative"
unfoldable pub searched_in : Memory → Direction → Part → Result Searched
searched_in m d (whole s) = pure (restricted d s (length (string_at m s)) (string_at m s))
searched_in m d (first s n) =
    let z = length_in m n in
    cond (is_negative z) (stop 17) (pure (restricted d s (nat_abs z) (string_at m s)))

-- an element of the pattern with its value, and the string that its piece is to name
pub record Valued : Type 0 where
  pub names : Option ℕ
  pub element : Element

-- N4 "A negative fixed filler: a note, a null string element, and its name made null, naming nothing."
unfoldable pub fixed_at : ℕ → ℤ → Result Valued
fixed_at s z =
    cond (is_negative z)
    (done (record { names = none; element = string [] }) 1)
    (pure (record { names = some s; element = fixed (nat_abs z) }))

unfoldable pub valued_in : Edition → Memory → PatternElement → Result Valued
valued_in e m (value x) = element_in e m x >>= λ v. pure (record { names = none; element = string v })
valued_in e m (free_filler s) = pure (record { names = some s; element = free })
valued_in e m (fixed_filler s n) = fixed_at s (length_in m n)

-- N5 "pattern values", from left to right
unfoldable pub pattern_in : Edition → Memory → List PatternElement → Result (List Valued)
pattern_in e m [] = pure []
pattern_in e m (x ∷ xs) = do
  v ← valued_in e m x
  vs ← pattern_in e m xs
  pure (v ∷ vs)

-- N5 "fillers made null"
unfoldable pub without_fillers : List PatternElement → Memory → Memory
without_fillers [] m = m
without_fillers (value x ∷ xs) m = without_fillers xs m
without_fillers (free_filler s ∷ xs) m = without_fillers xs (with_string m s [])
without_fillers (fixed_filler s n ∷ xs) m = without_fillers xs (with_string m s [])

unfoldable pub named : Option ℕ → List ℕ → Memory → Memory
named none piece m = m
named (some s) piece m = with_string m s piece

-- N5 "naming left to right, so the rightmost of equal names wins"; N7 "fillers aren't turned back"
unfoldable pub naming : List Valued → List ℕ → List ℕ → Memory → Memory
naming [] rest ls m = m
naming (v ∷ vs) rest [] m = m
naming (v ∷ vs) rest (l ∷ ls) m = naming vs (drop l rest) ls (named v.names (take l rest) m)

-- the reference with other bytes where the pieces of the split lay
unfoldable pub with_replaced : List ℕ → Split → List ℕ → List ℕ
with_replaced r s v = take s.start r ++ (v ++ drop (s.start + total (λ l. l) s.lengths) r)

-- Q20 "A string to be stored .. exceeds 1,024 bytes."
unfoldable pub storing : ℕ → List ℕ → Memory → Result Memory
storing s v m = cond (leb (length v) longest_string) (pure (with_string m s v)) (stop 20)

-- N5 "replacement, if the statement has `=`, its expression valued now, with the string searched still old and unturned"; N7 "scanned and
-- replaced in, and turned back". The value goes in as it is and is turned once, with the reference around it; L14 has "turning the replacement
-- twice" as a mistake. P9: "ABC" is scanned as "CBA", so X is "C", Y is "BA" and Y,X is "BAC", which turned back is "CAB".
unfoldable pub replacing : Edition → Direction → Searched → Split → Option (List Program.Element) → Memory → Result Memory
replacing e d x s none m = pure m
replacing e d x s (some xs) m = do
  v ← string_in e m xs
  storing x.place (x.before ++ (turned d (with_replaced (turned d x.reference) s v) ++ x.behind)) m

-- what a scan left: the memory, and the answer with split and trials
pub record ScanLeft : Type 0 where
  pub memory : Memory
  pub scanned : Scanned

-- N8 "Failure leaves fillers null and the reference as it was.": m has its fillers made null already, and nothing is stored. Otherwise the pieces
-- are cut from the reference as it was scanned, in a BACKSCAN turned once, and named so; L14 has "fillers turned back after BACKSCAN" as a mistake.
unfoldable pub leaving : Edition → Direction → Searched → List Valued → Option (List Program.Element) → Memory → Scanned → Option Split → Result ScanLeft
leaving e d x vs r m a none = pure (record { memory = m; scanned = a })
leaving e d x vs r m a (some s) = do
  left ← replacing e d x s r (naming vs (drop s.start (turned d x.reference)) s.lengths m)
  pure (record { memory = left; scanned = a })

-- N5 "Order of work: reference length; pattern values; fillers made null; scan; naming ..; replacement". The reference's bytes are taken
-- with its length: no filler is the string searched (Q8).
unfoldable pub scanning_in : Edition → Memory → Direction → Part → List PatternElement → Option (List Program.Element) → Result ScanLeft
scanning_in e m d p xs r = do
  x ← searched_in m d p
  vs ← pattern_in e m xs
  let a = scan (map (λ v. v.element) vs) (turned d x.reference)
  leaving e d x vs r (without_fillers xs m) a a.split
