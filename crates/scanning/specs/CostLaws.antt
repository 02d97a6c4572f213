-- No scan makes more trials than its size allows, and for each size with an element that is tested there is a scan that makes as many.
-- Assumes nothing.
use Rattle.std.specs.Prelude.{Bool, true, false, List, [], ◌∷◌, ◌≡◌, refl, ℕ, zero, suc, ◌+◌, ◌*◌, ◌≤◌, leb, length, drop, replicate}
use Rattle.std.proofs.Common.{◌∙◌, ap, arith, length-drop}
use Rattle.std.proofs.lemmas.List.{length-replicate}
use Rattle.std.proofs.lemmas.Bool.{le-leb}
use Rattle.std.proofs.Math.Dec.{leb-zero}
use Rattle.std.proofs.Math.Nat.{add-mul, mul-suc, mul-le-mul_left}
use Rattle.std.proofs.Math.Option.{Option, none, some}
use Rattle.base.specs.Lists.{same, begins}
use Rattle.scanning.specs.Call.{split_numbers, answer_numbers, trials_in}
use Rattle.scanning.specs.Costs.{tested_elements, ScanSize, scan_size, most_trials, TrialsWithin}
use Rattle.scanning.specs.Laws.{Slid, slid_found, slid_few, slide_slid}
use Rattle.scanning.specs.Splits.{Element, string, fixed, free, Split}
use Rattle.scanning.specs.Trials.{Scanned, Tried, found, other, few, element_passed, tested, place_moved, settled, slide, match, answered, scan}

-- how many of a pattern's first group are tested, and how many of the groups behind it
first_tested : List Element → ℕ
first_tested [] = 0
first_tested (string w ∷ p) = suc (first_tested p)
first_tested (fixed n ∷ p) = suc (first_tested p)
first_tested (free ∷ p) = 0

later_tested : List Element → ℕ
later_tested [] = 0
later_tested (string w ∷ p) = later_tested p
later_tested (fixed n ∷ p) = later_tested p
later_tested (free ∷ p) = tested_elements p

-- they are all
tested_all : (p : List Element) → tested_elements p ≡ first_tested p + later_tested p
unfolding tested_elements first_tested later_tested
tested_all [] = refl
tested_all (string w ∷ p) = omega (arith, tested_all p)
tested_all (fixed n ∷ p) = omega (arith, tested_all p)
tested_all (free ∷ p) = omega arith

-- the trials made
trials_made : Tried → ℕ
trials_made (found ls n) = n
trials_made (other n) = n
trials_made (few n) = n

-- they are those answered
answered_made : (t : Tried) → (answered t).trials ≡ trials_made t
unfolding trials_made answered
answered_made (found [] n) = refl
answered_made (found (start ∷ ls) n) = refl
answered_made (other n) = refl
answered_made (few n) = refl

-- What a row of elements costs at one place: a group that moves on costs its own trials alone, else the groups behind it may have been tried too.
Cost : (own later : ℕ) → Tried → Type 0
Cost own later (found ls n) = n ≤ own + later
Cost own later (other n) = n ≤ own
Cost own later (few n) = n ≤ own + later

-- a slide doesn't move on
slid_cost : (own later : ℕ) (t : Tried) → Slid t → trials_made t ≤ later → Cost own later t
unfolding Cost trials_made
slid_cost own later (found (gap ∷ ls) n) (slid_found _ _ _) h = omega arith
slid_cost own later (few n) (slid_few _) h = omega arith
slid_cost own later (found [] n) s h = elim s [ ]
slid_cost own later (other n) s h = elim s [ ]

-- the trials of one place, and then of the next
moved_made : (n : ℕ) (t : Tried) → trials_made (place_moved n t) ≡ n + trials_made t
unfolding trials_made place_moved
moved_made n (found [] m) = refl
moved_made n (found (gap ∷ ls) m) = refl
moved_made n (other m) = refl
moved_made n (few m) = refl

settled_made : (own later most : ℕ) (t next : Tried) → Cost own later t → trials_made next ≤ most + later
    → trials_made (settled t next) ≤ own + most + later
unfolding Cost settled trials_made
settled_made own later most (found ls n) next c h = omega arith
settled_made own later most (other n) next c h = omega (arith, moved_made n next)
settled_made own later most (few n) next c h = omega arith

-- a row that slides: at each place its own trials, and once those behind it
slide_made : (row : List ℕ → Tried) (own later n : ℕ) → ((rest : List ℕ) → length rest ≤ n → Cost own later (row rest)) → (rest : List ℕ)
    → length rest ≤ n → trials_made (slide row rest) ≤ own * (length rest + 1) + later
unfolding slide trials_made
slide_made row own later n cost [] h =
    let one = settled_made own later 0 (row []) (few 0) (cost [] h) (omega arith) in
    omega (arith, mul-suc own 0)
slide_made row own later n cost (b ∷ rest) h =
    let next = slide_made row own later n cost rest (omega arith) in
    let one = settled_made own later (own * (length rest + 1)) (row (b ∷ rest)) (slide row rest) (cost (b ∷ rest) h) next in
    omega (arith, mul-suc own (length rest + 1))

-- What a pattern costs at one place of a reference of at most n bytes: a trial for each element of its first group that is tested, n + 1 trials for
-- each behind it.
abbrev PatternCost : (n : ℕ) → List Element → Type 0
PatternCost n p = (rest : List ℕ) → length rest ≤ n → Cost (first_tested p) (later_tested p * (n + 1)) (match p rest)

-- a pattern that slides: n + 1 trials for each element that is tested
pattern_made : (n : ℕ) (p : List Element) → PatternCost n p → (rest : List ℕ) → length rest ≤ n
    → trials_made (slide (match p) rest) ≤ tested_elements p * (n + 1)
pattern_made n p cost rest h =
    let own = first_tested p in
    let later = later_tested p in
    let all : tested_elements p * (n + 1) ≡ own * (n + 1) + later * (n + 1) = ap (λ m. m * (n + 1)) (tested_all p) ∙ add-mul own later (n + 1) in
    let places : own * (length rest + 1) ≤ own * (n + 1) = mul-le-mul_left own (omega arith) in
    omega (arith, slide_made (match p) own (later * (n + 1)) n cost rest h)

-- an element that passes is one trial more
passed_cost : (own later l : ℕ) (t : Tried) → Cost own later t → Cost (suc own) later (element_passed l t)
unfolding Cost element_passed
passed_cost own later l (found ls n) c = omega arith
passed_cost own later l (other n) c = omega arith
passed_cost own later l (few n) c = omega arith

-- and one that fails is one
tested_cost : (own later : ℕ) (enough equal : Bool) (l : ℕ) (next : Tried) → Cost own later next → Cost (suc own) later (tested enough equal l next)
unfolding Cost tested
tested_cost own later false equal l next c = omega arith
tested_cost own later true false l next c = omega arith
tested_cost own later true true l next c = passed_cost own later l next c

-- a pattern at a place
match_cost : (n : ℕ) (p : List Element) → PatternCost n p
unfolding match first_tested later_tested Cost
match_cost n [] rest h = omega arith
match_cost n (string w ∷ p) rest h =
    let behind = drop (length w) rest in
    tested_cost (first_tested p) (later_tested p * (n + 1)) (leb (length w) (length rest)) (begins w rest) (length w) (match p behind)
    (match_cost n p behind (omega (arith, length-drop (length w) rest)))
match_cost n (fixed k ∷ p) rest h =
    let behind = drop k rest in
    tested_cost (first_tested p) (later_tested p * (n + 1)) (leb k (length rest)) true k (match p behind)
    (match_cost n p behind (omega (arith, length-drop k rest)))
match_cost n (free ∷ []) rest h = omega arith
match_cost n (free ∷ (e ∷ p)) rest h =
    slid_cost 0 (tested_elements (e ∷ p) * (n + 1)) (slide (match (e ∷ p)) rest) (slide_slid (match (e ∷ p)) rest)
    (pattern_made n (e ∷ p) (match_cost n (e ∷ p)) rest h)

-- W8.2 "the trials .. never exceed m × (n + 1), for success and failure alike"
pub scan_within : (p : List Element) (r : List ℕ) → TrialsWithin (scan_size p r) (scan p r).trials
unfolding scan scan_size TrialsWithin most_trials
scan_within p r =
    let made = pattern_made (length r) p (match_cost (length r) p) r (omega arith) in
    omega (arith, answered_made (slide (match p) r))

-- the trials are read back from the answer's numbers
pub trials_back : (notes : ℕ) (s : Scanned) → trials_in (answer_numbers notes s) ≡ s.trials
unfolding trials_in answer_numbers split_numbers
trials_back notes s = back s.split
  where
    back : (o : Option Split) → trials_in (split_numbers o s.trials notes) ≡ s.trials
    back none = refl
    back (some a) = refl

-- m null strings and then "B"
unfoldable pub costly_pattern : ℕ → List Element
costly_pattern zero = string (66 ∷ []) ∷ []
costly_pattern (suc m) = string [] ∷ costly_pattern m

-- n bytes "A"
abbrev pub costly_reference : ℕ → List ℕ
costly_reference n = replicate n 65

-- at a place of the reference all are tested, and the last one finds another byte
costly_other : (m : ℕ) (rest : List ℕ) → match (costly_pattern m) (65 ∷ rest) ≡ other (m + 1)
unfolding match costly_pattern tested element_passed begins same
costly_other zero rest = rw (le-leb 1 (suc (length rest)) (omega arith))
costly_other (suc m) rest = rw (leb-zero (suc (length rest)), costly_other m rest) (ap other (omega arith))

-- behind its last byte likewise, and the last one has too few bytes
costly_few : (m : ℕ) → match (costly_pattern m) [] ≡ few (m + 1)
unfolding match costly_pattern tested element_passed begins same
costly_few zero = refl
costly_few (suc m) = rw (costly_few m) (ap few (omega arith))

-- so all of them are tested at each of n + 1 places
costly_slides : (m n : ℕ) → slide (match (costly_pattern m)) (costly_reference n) ≡ few ((m + 1) * (n + 1))
unfolding slide settled place_moved
costly_slides m zero = rw (costly_few m) (ap few (omega arith))
costly_slides m (suc n) = rw (costly_other m (replicate n 65), costly_slides m n) (ap few (omega (arith, mul-suc (m + 1) (n + 1))))

-- and they are all that the pattern has
costly_tested : (m : ℕ) → tested_elements (costly_pattern m) ≡ m + 1
unfolding tested_elements costly_pattern
costly_tested zero = refl
costly_tested (suc m) = omega (arith, costly_tested m)

-- The bound is reached: for each m above 0 and each n a scan of that size makes all the trials that it may.
pub bound_reached : (m n : ℕ)
    → (let size : ScanSize = record { n = n; m = m + 1 } in
    (scan_size (costly_pattern m) (costly_reference n) ≡ size)
    × ((scan (costly_pattern m) (costly_reference n)).trials ≡ most_trials size))
unfolding scan scan_size most_trials answered
bound_reached m n = (
  λ i. record { n = length-replicate {A = ℕ} n 65 i; m = costly_tested m i },
  ap (λ t. (answered t).trials) (costly_slides m n),
)
