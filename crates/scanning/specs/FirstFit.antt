-- The scan answers the first fit, for every pattern and reference, that of a BACKSCAN too. Assumes nothing.
use Rattle.std.specs.Prelude.{Bool, ◌⊎◌, ◌↔◌, ◌≡◌, refl, leb, length, drop}
use Rattle.std.proofs.Math.Bool.{true, false, false≢true}
use mathlib.Core.List.{List, [], ◌∷◌}
use Rattle.std.proofs.Common.{inl, ◌∙◌, ap, add_comm, length-take-le}
use Rattle.std.proofs.Math.Logic.{inr, ⊎_elim}
use Rattle.std.proofs.Math.Option.{none, some, none-ne-some, some-ne-none, some-injective}
use Rattle.std.proofs.Math.Path.{sym, subst}
use Prim.Native.Nat.{ℕ, zero, suc, ◌+◌, ◌≤◌}
use native.Mathlib.Omega.{arith}
use Rattle.std.proofs.Math.ListN.{length-drop}
use Rattle.std.proofs.Math.Seq.{drop-drop, drop-nil}
use borrow.Author.Tests.{leb-true, leb-false}
use Rattle.base.specs.Lists.{is_nil, begins}
use Rattle.base.specs.ListLaws.{begins_iff}
use Rattle.scanning.specs.Splits.{Element, string, fixed, free, Split, Suits, PiecesFit, Fits, Longer, Later, FirstFit}
use Rattle.scanning.specs.Splits.{AnswersFirstFit}
use Rattle.scanning.specs.Trials.{Tried, found, other, few, element_passed, tested, place_moved, settled, slide, match, answered}
use Rattle.scanning.specs.Trials.{scan}
use Rattle.scanning.specs.Laws.{split_row, row_injective, first_fit_unique}

-- which rows of lengths fit at a place
abbrev Fitting : Type 1
Fitting = List ℕ → List ℕ → Type 0

-- no row of lengths fits at this place
abbrev NoneFits : Fitting → List ℕ → Type 0
NoneFits Fit rest = (ls : List ℕ) → ¬ Fit rest ls

-- ms is the row ls or a longer one
NotBefore : List ℕ → List ℕ → Type 0
NotBefore ms ls = (ms ≡ ls) ⊎ Longer ms ls

-- What an outcome at a place says of the rows that fit. Found: this row fits, and none that fits comes before it. Other bytes: none
-- fits here. Too few bytes: none fits here or at any place further right; this is what lets the scan end there.
Correct : Fitting → List ℕ → Tried → Type 0
Correct Fit rest (found ls n) = Fit rest ls × ((ms : List ℕ) → Fit rest ms → NotBefore ms ls)
Correct Fit rest (other n) = NoneFits Fit rest
Correct Fit rest (few n) = (k : ℕ) → NoneFits Fit (drop k rest)

-- the first length is a gap, and the others fit behind it
Behind : Fitting → Fitting
Behind Fit rest [] = ⊥
Behind Fit rest (gap ∷ ls) = (gap ≤ length rest) × Fit (drop gap rest) ls

-- an outcome says the same of the same rows
says_iff : (Fit Fit' : Fitting) → ((rest ls : List ℕ) → Fit rest ls ↔ Fit' rest ls) → (rest : List ℕ) (t : Tried)
    → Correct Fit rest t → Correct Fit' rest t
unfolding Correct
says_iff Fit Fit' iff rest (found ls n) h = ((iff rest ls).0 h.0, λ ms g. h.1 ms ((iff rest ms).1 g))
says_iff Fit Fit' iff rest (other n) h = λ ms g. h ms ((iff rest ms).1 g)
says_iff Fit Fit' iff rest (few n) h = λ k ms g. h k ms ((iff (drop k rest) ms).1 g)

-- the same length in front of two rows leaves their order
not_before_cons : (l : ℕ) (ls ms : List ℕ) → NotBefore ms ls → NotBefore (l ∷ ms) (l ∷ ls)
unfolding NotBefore Longer
not_before_cons l ls ms (inl h) = inl (cc)
not_before_cons l ls ms (inr h) = inr (inr (refl, h))

-- one byte more in the first lengths of two rows leaves their order
not_before_suc : (l m : ℕ) (ls ms : List ℕ) → NotBefore (m ∷ ms) (l ∷ ls) → NotBefore (suc m ∷ ms) (suc l ∷ ls)
unfolding NotBefore Longer
not_before_suc l m ls ms (inl h) = inl (cc)
not_before_suc l m ls ms (inr (inl h)) = inr (inl (omega arith))
not_before_suc l m ls ms (inr (inr h)) = inr (inr (ap suc h.0, h.1))

-- a row of elements that slides to the right, and what its outcomes say of the gap it passes over
module _ (Fit : Fitting) where
  -- where none fits at this place, whatever fits behind a gap has a gap of a byte more than from the next place
  next_place : (b : ℕ) (rest : List ℕ) → NoneFits Fit (b ∷ rest) → (P : List ℕ → Type 0)
      → ((gap : ℕ) (ls : List ℕ) → Behind Fit rest (gap ∷ ls) → P (suc gap ∷ ls)) → (ls : List ℕ) → Behind Fit (b ∷ rest) ls → P ls
  unfolding Behind
  next_place b rest here P f [] h = absurd h
  next_place b rest here P f (zero ∷ ls) h = absurd (here ls h.1)
  next_place b rest here P f (suc gap ∷ ls) h = f gap ls (omega arith, h.1)

  -- where none fits at this place, what the next place says holds here with a gap of a byte more
  moved_says : (n b : ℕ) (rest : List ℕ) (next : Tried) → NoneFits Fit (b ∷ rest) → Correct (Behind Fit) rest next
      → Correct (Behind Fit) (b ∷ rest) (place_moved n next)
  unfolding place_moved Correct Behind
  moved_says n b rest (found [] m) here h = absurd h.0
  moved_says n b rest (found (gap ∷ ls) m) here h = (
    (omega arith, h.0.1),
    next_place b rest here (λ ms. NotBefore ms (suc gap ∷ ls)) (λ k ms g. not_before_suc gap k ls ms (h.1 (k ∷ ms) g)),
  )
  moved_says n b rest (other m) here h = next_place b rest here (λ ms. ⊥) (λ gap ls. h (gap ∷ ls))
  moved_says n b rest (few m) here h =
      elim [ zero ↦ next_place b rest here (λ ms. ⊥) (λ gap ls. h 0 (gap ∷ ls)) | suc k ↦ h k ]

  -- the outcome at this place or, where none fits here, at the next
  settled_says : (rest : List ℕ) (t next : Tried) → Correct Fit rest t
      → ((n : ℕ) → NoneFits Fit rest → Correct (Behind Fit) rest (place_moved n next)) → Correct (Behind Fit) rest (settled t next)
  unfolding settled Correct Behind NotBefore Longer
  settled_says rest (found ls n) next h further = ((omega arith, h.0), first)
    where
      first : (ms : List ℕ) → Behind Fit rest ms → NotBefore ms (0 ∷ ls)
      first [] g = absurd g
      first (zero ∷ ms) g = not_before_cons 0 ls ms (h.1 ms g.1)
      first (suc gap ∷ ms) g = inr (inl (omega arith))
  settled_says rest (other n) next h further = further n h
  settled_says rest (few n) next h further = λ k. elim [ [] ↦ λ g. g | gap ∷ ms ↦ λ g. h (k + gap) ms (rw drop-drop at g).1 ]

  -- a row whose outcomes say so of what fits, slid to the right, says so of a gap and what fits behind it
  slide_says : (try : List ℕ → Tried) → ((rest : List ℕ) → Correct Fit rest (try rest)) → (rest : List ℕ)
      → Correct (Behind Fit) rest (slide try rest)
  unfolding slide place_moved Correct Behind
  slide_says try h [] =
      settled_says [] (try []) (few 0) (h []) (λ n here k. elim [ [] ↦ λ g. g | gap ∷ ls ↦ λ g. here ls (simp drop-nil at g).1 ])
  slide_says try h (b ∷ rest) =
      let next = slide_says try h rest in
      settled_says (b ∷ rest) (try (b ∷ rest)) (slide try rest) (h (b ∷ rest)) (λ n here. moved_says n b rest (slide try rest) here next)

-- two numbers of bytes may be passed over in either order
drop_swap : (k l : ℕ) (rest : List ℕ) → drop k (drop l rest) ≡ drop l (drop k rest)
drop_swap k l rest = rw (drop-drop k l rest, drop-drop l k rest, add_comm l k)

-- every piece that suits the element has l bytes
abbrev Long : Element → ℕ → Type 0
Long e l = (last : Bool) (rest : List ℕ) (m : ℕ) → m ≤ length rest → Suits e last rest m → m ≡ l

-- a string's pieces are as long as the string
string_long : (w : List ℕ) → Long (string w) (length w)
unfolding Suits
string_long w last rest m inside suits = sym (length-take-le m rest inside) ∙ ap length suits

-- a fixed filler's pieces have its length
fixed_long : (n : ℕ) → Long (fixed n) n
unfolding Suits
fixed_long n last rest m inside suits = suits

-- an element e whose pieces have l bytes, before the elements p
module _ (e : Element) (p : List Element) (l : ℕ) (long : Long e l) where
  -- whatever fits has a first piece of l bytes
  first_piece : (rest : List ℕ) (P : List ℕ → Type 0)
      → ((ls : List ℕ) → l ≤ length rest → Suits e (is_nil p) rest l → PiecesFit p (drop l rest) ls → P (l ∷ ls))
      → (ls : List ℕ) → PiecesFit (e ∷ p) rest ls → P ls
  unfolding PiecesFit
  first_piece rest P f [] h = absurd h
  first_piece rest P f (m ∷ ls) h =
      let same : m ≡ l = long (is_nil p) rest m h.0 h.1 in
      rw same (f ls (rw same at h).0 (rw same at h).1 (rw same at h).2)

  -- where e passes, what p says behind its piece holds with l in front
  passed_says : (rest : List ℕ) (next : Tried) → l ≤ length rest → Suits e (is_nil p) rest l → Correct (PiecesFit p) (drop l rest) next
      → Correct (PiecesFit (e ∷ p)) rest (element_passed l next)
  unfolding element_passed Correct PiecesFit
  passed_says rest (found ls n) inside suits h =
      ((inside, suits, h.0), first_piece rest (λ ms. NotBefore ms (l ∷ ls)) (λ ms _ _ g. not_before_cons l ls ms (h.1 ms g)))
  passed_says rest (other n) inside suits h = first_piece rest (λ ms. ⊥) (λ ms _ _ g. h ms g)
  passed_says rest (few n) inside suits h = λ k. first_piece (drop k rest) (λ ms. ⊥) (λ ms _ _ g. h k ms (rw (drop_swap k l rest) g))

  -- the test of e, then p behind its piece
  tested_says : (rest : List ℕ) (enough equal : Bool) (next : Tried) → leb l (length rest) ≡ enough
      → (equal ≡ true) ↔ Suits e (is_nil p) rest l → Correct (PiecesFit p) (drop l rest) next
      → Correct (PiecesFit (e ∷ p)) rest (tested enough equal l next)
  unfolding tested Correct
  tested_says rest false equal next size bytes h =
      λ k. first_piece (drop k rest) (λ ms. ⊥) (λ ms inside _ _. omega (arith, leb-false l (length rest) size, length-drop k rest))
  tested_says rest true false next size bytes h = first_piece rest (λ ms. ⊥) (λ ms _ suits _. false≢true (bytes.1 suits))
  tested_says rest true true next size bytes h = passed_says rest next (leb-true l (length rest) size) (bytes.0 refl) h

-- the length of a free filler that is not last is a gap
free_gap : (e : Element) (p : List Element) (rest ls : List ℕ) → Behind (PiecesFit (e ∷ p)) rest ls ↔ PiecesFit (free ∷ (e ∷ p)) rest ls
unfolding Behind PiecesFit Suits is_nil
free_gap e p rest [] = (λ h. h, λ h. h)
free_gap e p rest (gap ∷ ls) = (λ h. (h.0, tt, h.1), λ h. (h.0, h.2))

-- the outcomes of a row of elements at a place say so of the pieces that fit there
match_says : (p : List Element) (rest : List ℕ) → Correct (PiecesFit p) rest (match p rest)
unfolding match Correct PiecesFit Suits NotBefore is_nil
match_says [] rest = (tt, elim [ [] ↦ λ g. inl refl | m ∷ ms ↦ λ g. absurd g ])
match_says (string w ∷ p) rest =
    let l = length w in
    let next = match_says p (drop l rest) in
    tested_says (string w) p l (string_long w) rest (leb l (length rest)) (begins w rest) (match p (drop l rest)) refl (begins_iff w rest) next
match_says (fixed n ∷ p) rest =
    let next = match_says p (drop n rest) in
    tested_says (fixed n) p n (fixed_long n) rest (leb n (length rest)) true (match p (drop n rest)) refl (λ e. refl, λ e. refl) next
match_says (free ∷ []) rest = ((omega arith, refl, tt), only)
  where
    only : (ms : List ℕ) → PiecesFit (free ∷ []) rest ms → NotBefore ms (length rest ∷ [])
    only [] g = absurd g
    only (m ∷ []) g = inl (ap {B = List ℕ} (λ n. n ∷ []) g.1)
    only (m ∷ (l ∷ ms)) g = absurd g.2
match_says (free ∷ (e ∷ p)) rest =
    let slid = slide_says (PiecesFit (e ∷ p)) (match (e ∷ p)) (match_says (e ∷ p)) rest in
    says_iff (Behind (PiecesFit (e ∷ p))) (PiecesFit (free ∷ (e ∷ p))) (free_gap e p) rest (slide (match (e ∷ p)) rest) slid

module _ (p : List Element) (r : List ℕ) where
  -- where no split fits, to fail is right
  answers_none : ((s : Split) → ¬ Fits p r s) → AnswersFirstFit p r none
  answers_none h = record { fails = (λ e. h, λ g. refl); first = λ a e. absurd (none-ne-some a e) }

  -- a first fit is the right answer
  answers_some : (a : Split) → FirstFit p r a → AnswersFirstFit p r (some a)
  unfolding FirstFit
  answers_some a h =
      record {
        fails = (λ e. absurd (some-ne-none a e), λ g. absurd (g a h.0));
        first =
            λ b e s.
            let a≡b = some-injective a b e in
            (λ q. subst (FirstFit p r) (a≡b ∙ sym q) h, λ f. first_fit_unique p r s a f h ∙ a≡b);
      }

  -- an outcome that says so of a start and the pieces behind it makes the right answer
  answered-first : (t : Tried) → Correct (Behind (PiecesFit p)) r t → AnswersFirstFit p r (answered t).split
  unfolding answered Correct Behind NotBefore Fits FirstFit Later Longer
  answered-first (found [] n) h = absurd h.0
  answered-first (found (start ∷ ls) n) h =
      let a : Split = record { start = start; lengths = ls } in
      answers_some a (h.0, λ t f differ. ⊎_elim (λ e. absurd (differ (row_injective t a e))) (λ g. g) (h.1 (split_row t) f))
  answered-first (other n) h = answers_none (λ s. h (split_row s))
  answered-first (few n) h = answers_none (λ s. h 0 (split_row s))

-- demand 3 of SCAN, and of BACKSCAN with r turned round: it fails exactly when no split fits, and otherwise answers the first fit
pub scan_first_fit : (p : List Element) (r : List ℕ) → AnswersFirstFit p r (scan p r).split
unfolding scan
scan_first_fit p r = answered-first p r (slide (match p) r) (slide_says (PiecesFit p) (match p) (match_says p) r)
