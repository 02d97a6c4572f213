-- A string longer than the reference is told by its length alone: the scan tests it, finds too few bytes, and counts one trial, just as
-- for a fixed filler of that length. Assumes nothing.
use Rattle.std.specs.Prelude.{true, cond, List, [], ◌∷◌, map, ◌≡◌, refl, ℕ, ◌≤◌, ◌<◌, leb, ltb, length, drop}
use Rattle.std.proofs.Common.{ap, ap₂, arith, length-drop, ltb-true}
use Rattle.std.proofs.lemmas.Bool.{lt-leb}
use Rattle.base.specs.Choice.{test_cases}
use Rattle.base.specs.Lists.{begins}
use Rattle.scanning.specs.Splits.{Element, string, fixed, free}
use Rattle.scanning.specs.Trials.{Tried, few, tested, settled, slide, match, answered, scan}
use Rattle.scan_statement.specs.Patterns.{rowed}

-- rows that fare alike at every place that has few bytes left
slide_alike : (f g : List ℕ → Tried) (most : ℕ) → ((rest : List ℕ) → length rest ≤ most → f rest ≡ g rest)
    → (rest : List ℕ) → length rest ≤ most → slide f rest ≡ slide g rest
unfolding slide
slide_alike f g most h [] k = ap (λ x. settled x (few 0)) (h [] k)
slide_alike f g most h (b ∷ rest) k =
    ap₂ settled (h (b ∷ rest) k) (slide_alike f g most h rest (omega arith))

-- a list is no longer for some bytes dropped
drop_within : (n : ℕ) (rest : List ℕ) → length rest ≤ 1024 → length (drop n rest) ≤ 1024
drop_within n rest h = omega (arith, length-drop n rest)

-- the row of a pattern fares as the pattern
match-rowed : (p : List Element) (rest : List ℕ) → length rest ≤ 1024 → match p rest ≡ match (map rowed p) rest
unfolding match rowed tested
match-rowed [] rest h = refl
match-rowed (string w ∷ p) rest h =
    test_cases (λ x. match (string w ∷ p) rest ≡ match (cond x (fixed (length w)) (string w) ∷ map rowed p) rest) (ltb 1024 (length w))
    (λ e.
    let long : length rest < length w = omega (arith, ltb-true 1024 (length w) e) in
    rw (lt-leb (length w) (length rest) long) refl)
    (λ _.
    ap (tested (leb (length w) (length rest)) (begins w rest) (length w))
    (match-rowed p (drop (length w) rest) (drop_within (length w) rest h)))
match-rowed (fixed n ∷ p) rest h =
    ap (tested (leb n (length rest)) true n) (match-rowed p (drop n rest) (drop_within n rest h))
match-rowed (free ∷ []) rest h = refl
match-rowed (free ∷ (e ∷ p)) rest h =
    slide_alike (match (e ∷ p)) (match (rowed e ∷ map rowed p)) 1024 (match-rowed (e ∷ p)) rest h

-- so does the scan: it has the same split and makes the same trials
pub scan-rowed : (p : List Element) (r : List ℕ) → length r ≤ 1024 → scan p r ≡ scan (map rowed p) r
unfolding scan
scan-rowed p r h = ap answered (slide_alike (match p) (match (map rowed p)) 1024 (match-rowed p) r h)
