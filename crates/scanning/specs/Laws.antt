-- The order of splits is strict and total, and a first fit is unique; what a slide ends with. Assumes nothing.
use Rattle.std.specs.Prelude.{List, [], ◌∷◌, ◌⊎◌, ◌≢◌, ◌≡◌, refl, ℕ, zero, suc, ◌+◌, ◌<◌, length, drop}
use Rattle.std.proofs.Common.{inl, inr, ⊎_elim, sym, ◌∙◌, ap, arith}
use Rattle.std.proofs.Math.Logic.{⊎_map}
use Rattle.scanning.specs.Splits.{Element, Split, PiecesFit, Fits, Longer, Later, FirstFit}
use Rattle.scanning.specs.Trials.{Tried, found, other, few, place_moved, settled, slide}

-- two numbers are equal or one is greater
number_total : (l m : ℕ) → (l ≡ m) ⊎ ((m < l) ⊎ (l < m))
number_total zero zero = inl refl
number_total zero (suc m) = inr (inr (omega arith))
number_total (suc l) zero = inr (inl (omega arith))
number_total (suc l) (suc m) = ⊎_map (ap suc) (⊎_map (λ h. omega arith) (λ h. omega arith)) (number_total l m)

-- no row of lengths is longer than itself
pub longer_irreflexive : (ls : List ℕ) → ¬ Longer ls ls
unfolding Longer
longer_irreflexive [] h = h
longer_irreflexive (l ∷ ls) (inl h) = omega arith
longer_irreflexive (l ∷ ls) (inr h) = longer_irreflexive ls h.1

-- longer than a longer row is longer
pub longer_transitive : (ks ls ms : List ℕ) → Longer ks ls → Longer ls ms → Longer ks ms
unfolding Longer
longer_transitive [] ls ms h g = absurd h
longer_transitive (k ∷ ks) [] ms h g = absurd h
longer_transitive (k ∷ ks) (l ∷ ls) [] h g = absurd g
longer_transitive (k ∷ ks) (l ∷ ls) (m ∷ ms) (inl h) (inl g) = inl (omega arith)
longer_transitive (k ∷ ks) (l ∷ ls) (m ∷ ms) (inl h) (inr g) = inl (omega arith)
longer_transitive (k ∷ ks) (l ∷ ls) (m ∷ ms) (inr h) (inl g) = inl (omega arith)
longer_transitive (k ∷ ks) (l ∷ ls) (m ∷ ms) (inr h) (inr g) = inr (h.0 ∙ g.0, longer_transitive ks ls ms h.1 g.1)

-- two rows of as many lengths are equal or one is longer
pub longer-total : (ls ms : List ℕ) → length ls ≡ length ms → (ls ≡ ms) ⊎ (Longer ls ms ⊎ Longer ms ls)
unfolding Longer
longer-total [] [] e = inl refl
longer-total [] (m ∷ ms) e = absurd (omega arith)
longer-total (l ∷ ls) [] e = absurd (omega arith)
longer-total (l ∷ ls) (m ∷ ms) e = heads (number_total l m) (longer-total ls ms (omega arith))
  where
    heads : (l ≡ m) ⊎ ((m < l) ⊎ (l < m)) → (ls ≡ ms) ⊎ (Longer ls ms ⊎ Longer ms ls)
        → (◌≡◌ {A = List ℕ} (l ∷ ls) (m ∷ ms)) ⊎ (Longer (l ∷ ls) (m ∷ ms) ⊎ Longer (m ∷ ms) (l ∷ ls))
    heads (inl h) (inl t) = inl (cc)
    heads (inl h) (inr (inl t)) = inr (inl (inr (h, t)))
    heads (inl h) (inr (inr t)) = inr (inr (inr (sym h, t)))
    heads (inr (inl h)) t = inr (inl (inl h))
    heads (inr (inr h)) t = inr (inr (inl h))

-- a split as one row: its start, then its lengths; so a later split is one with a longer row
abbrev pub split_row : Split → List ℕ
split_row s = s.start ∷ s.lengths

-- splits with equal rows are equal
pub row_injective : (s t : Split) → split_row s ≡ split_row t → s ≡ t
row_injective s t e =
    let starts : s.start ≡ t.start = cc in
    let lengths : s.lengths ≡ t.lengths = cc in
    λ i. record { start = starts i; lengths = lengths i }

-- no split comes later than itself
pub later_irreflexive : (s : Split) → ¬ Later s s
unfolding Later Longer
later_irreflexive s h = longer_irreflexive (split_row s) h

-- later than a later split is later
pub later_transitive : (s t u : Split) → Later s t → Later t u → Later s u
unfolding Later Longer
later_transitive s t u h g = longer_transitive (split_row s) (split_row t) (split_row u) h g

-- two splits of as many lengths are equal or one comes later
pub later_total : (s t : Split) → length s.lengths ≡ length t.lengths → (s ≡ t) ⊎ (Later s t ⊎ Later t s)
unfolding Later Longer
later_total s t e = ⊎_map (row_injective s t) (λ h. h) (longer-total (split_row s) (split_row t) (ap suc e))

-- there is a piece for each element
pub pieces_count : (p : List Element) (rest ls : List ℕ) → PiecesFit p rest ls → length ls ≡ length p
unfolding PiecesFit
pieces_count [] rest [] h = refl
pieces_count [] rest (l ∷ ls) h = absurd h
pieces_count (e ∷ p) rest [] h = absurd h
pieces_count (e ∷ p) rest (l ∷ ls) h = ap suc (pieces_count p (drop l rest) ls h.2)

-- a split that fits has a length for each element
pub fits_count : (p : List Element) (r : List ℕ) (s : Split) → Fits p r s → length s.lengths ≡ length p
unfolding Fits
fits_count p r s h = pieces_count p (drop s.start r) s.lengths h.1

-- two splits that fit one pattern are equal or one comes later
pub fits_total : (p : List Element) (r : List ℕ) (s t : Split) → Fits p r s → Fits p r t → (s ≡ t) ⊎ (Later s t ⊎ Later t s)
fits_total p r s t f g = later_total s t (fits_count p r s f ∙ sym (fits_count p r t g))

-- a first fit comes later than no split that fits
pub first_fit_least : (p : List Element) (r : List ℕ) (s t : Split) → FirstFit p r s → Fits p r t → ¬ Later s t
unfolding FirstFit
first_fit_least p r s t f g h =
    let differ : t ≢ s = λ e. later_irreflexive s (rw e at h) in
    later_irreflexive s (later_transitive s t s h (f.1 t g differ))

-- two first fits are equal
pub first_fit_unique : (p : List Element) (r : List ℕ) (s t : Split) → FirstFit p r s → FirstFit p r t → s ≡ t
unfolding FirstFit
first_fit_unique p r s t f g =
    let never = ⊎_elim (first_fit_least p r s t f g.0) (first_fit_least p r t s g f.0) in
    ⊎_elim (λ e. e) (λ later. absurd (never later)) (fits_total p r s t f.0 g.0)

-- found with a first length, or too few bytes: what a slide can end with
pub data Slid : Tried → Type 0 where
  slid_found : (gap : ℕ) (ls : List ℕ) (n : ℕ) → Slid (found (gap ∷ ls) n)
  slid_few : (n : ℕ) → Slid (few n)

moved_slid : (n : ℕ) (t : Tried) → Slid t → Slid (place_moved n t)
unfolding place_moved
moved_slid n (found (gap ∷ ls) m) (slid_found _ _ _) = slid_found (suc gap) ls (n + m)
moved_slid n (few m) (slid_few _) = slid_few (n + m)
moved_slid n (found [] m) h = elim h [ ]
moved_slid n (other _) h = elim h [ ]

settled_slid : (t next : Tried) → Slid next → Slid (settled t next)
unfolding settled
settled_slid (found ls n) next h = slid_found 0 ls n
settled_slid (other n) next h = moved_slid n next h
settled_slid (few n) next h = slid_few n

pub slide_slid : (row : List ℕ → Tried) (s : List ℕ) → Slid (slide row s)
unfolding slide
slide_slid row [] = settled_slid (row []) (few 0) (slid_few 0)
slide_slid row (b ∷ rest) = settled_slid (row (b ∷ rest)) (slide row rest) (slide_slid row rest)
