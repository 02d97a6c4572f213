-- Document 01, "Scan": the scan step by step, with the trials it makes. A place is what is left of the reference from there.
-- N9 a group is a row of strings and fixed fillers up to the next free filler or the pattern's end; it is tested whole at one place. Groups in turn
-- move to the right, the first one by the start, each other one by the length of the free filler before it.
-- Assumes nothing.
use Rattle.std.specs.Prelude.{Bool, true, false, List, [], ◌∷◌, ℕ, suc, ◌+◌, leb, length, drop}
use Rattle.std.proofs.Math.Option.{Option, none, some}
use Rattle.base.specs.Lists.{begins}
use Rattle.scanning.specs.Splits.{Element, string, fixed, free, Split}

-- How a row of elements fared at a place, each with the trials made: the lengths of the pieces found; N12 "Too few bytes left fails the
-- whole scan; other bytes move the group one place right." Further right there are still fewer bytes for the same row, so `few` ends the moves
-- of this group and of those before it: none of them can fit any more (FirstFit: Correct).
pub data Tried : Type 0 where
  found : List ℕ → ℕ → Tried
  other : ℕ → Tried
  few : ℕ → Tried

-- N11 "each test is one trial", document 01's word: an element passed with a piece of l bytes, then the rest of the row
unfoldable pub element_passed : ℕ → Tried → Tried
element_passed l (found ls n) = found (l ∷ ls) (suc n)
element_passed l (other n) = other (suc n)
element_passed l (few n) = few (suc n)

-- N11 "the first that fails ends it"; decided for N12: too few bytes are looked at before other bytes
unfoldable pub tested : (enough equal : Bool) → ℕ → Tried → Tried
tested false equal l next = few 1
tested true false l next = other 1
tested true true l next = element_passed l next

-- what the row found one place further right, with the trials made before it
unfoldable pub place_moved : ℕ → Tried → Tried
place_moved n (found [] m) = found [] (n + m)
place_moved n (found (gap ∷ ls) m) = found (suc gap ∷ ls) (n + m)
place_moved n (other m) = other (n + m)
place_moved n (few m) = few (n + m)

-- the row fared so at a place: it stays there, behind a gap of 0 bytes, or goes on with what the next place gives
unfoldable pub settled : Tried → Tried → Tried
settled (found ls n) next = found (0 ∷ ls) n
settled (other n) next = place_moved n next
settled (few n) next = few n

-- N10 a group "is tried from" a place on, N12 moving "one place right" on other bytes; the gap passed over is the first length.
-- Where no place is left there are too few bytes.
unfoldable pub slide : (List ℕ → Tried) → List ℕ → Tried
slide row [] = settled (row []) (few 0)
slide row (b ∷ rest) = let next = slide row rest in settled (row (b ∷ rest)) next

-- N11 a row of elements "is tested at a place element by element"; N9 a free filler begins the next group, which slides to the right and
-- gives the filler its length; a last one reaches the end; N13 "An empty group costs nothing."
unfoldable pub match : List Element → List ℕ → Tried
match [] rest = found [] 0
match (string w ∷ p) rest =
    let next = match p (drop (length w) rest) in
    tested (leb (length w) (length rest)) (begins w rest) (length w) next
match (fixed n ∷ p) rest =
    let next = match p (drop n rest) in
    tested (leb n (length rest)) true n next
match (free ∷ []) rest = found (length rest ∷ []) 0
match (free ∷ (e ∷ p)) rest = slide (match (e ∷ p)) rest

-- N14 "The answer holds the split and the number of trials made"
pub record Scanned : Type 0 where
  pub split : Option Split
  pub trials : ℕ

-- a row found has a gap in front (slide), so it is never []
unfoldable pub answered : Tried → Scanned
answered (found [] n) = record { split = none; trials = n }
answered (found (start ∷ ls) n) = record { split = some (record { start = start; lengths = ls }); trials = n }
answered (other n) = record { split = none; trials = n }
answered (few n) = record { split = none; trials = n }

-- N10 "The first group is tried from place 0". P8 worked, "AB" by "B","C", which is one group: at place 0 "B" finds other bytes, `other 1`, and
-- moves on; at place 1 "B" passes and "C" finds no byte left, `few 1` and with the trial of "B" `few 2`. That ends it: with the trial at place 0
-- `few 3`, so no split and 3 trials.
unfoldable pub scan : List Element → List ℕ → Scanned
scan p r = answered (slide (match p) r)
