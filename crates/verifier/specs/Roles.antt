-- The tests of a pattern's roles ask for what the rules say (8): no filler is the reference, and no string stands behind a filler at its
-- place. Places of fillers are marked as they are met. Assumes nothing.
use Rattle.std.specs.Prelude.{Bool, cond, ◌&&◌, ◌||◌, ◌≡◌, ℕ, zero, suc, ◌+◌, ◌*◌, ◌-◌, ◌≤◌, ◌<◌, ltb, eqb, length, get_or, set, replicate}
use Rattle.std.proofs.Math.Bool.{true, false, not}
use mathlib.Core.List.{List, [], ◌∷◌}
use Rattle.std.proofs.Math.Path.{refl, ap, ap₂}
use Rattle.std.proofs.Common.{sym, ◌∙◌, length-set, get_or-set_same, get_or-set_other, eqb-true, le-ltb, lt-ltb}
use native.Mathlib.Omega.{arith}
use Rattle.std.proofs.lemmas.List.{get_or-replicate}
use Rattle.std.proofs.lemmas.Bool.{eqb-false}
use Rattle.base.specs.Choice.{test_cases}
use Rattle.base.specs.Lists.{any}
use Rattle.syntax.specs.Program.{constantly, numbered, whole, first, literal, part, string_call, PatternElement, value, free_filler, fixed_filler}
use Rattle.encoding.specs.Rules.{place_of, named_by, is_among, roles_hold}
use Rattle.encoding.specs.NumeralLaws.{stands_back, byte-read}
use Rattle.encoding.specs.Numerals.{in_bytes}
use Rattle.encoding.specs.Table.{cell_bytes, pattern_cell, literal_in, elements_at}
use Rattle.encoding.specs.TableReading.{cell_at}
use Rattle.verifier.specs.Same.{SameElements}
use Rattle.verifier.specs.Written.{piece_stands}

-- one element, by the mark at its place
unfoldable pub role_test : (reference kind place : ℕ) (marked : Bool) → Bool
role_test r k p marked = cond (ltb k 80) (not marked) (cond (ltb k 96) true (not (eqb p r)))

unfoldable pub marks_after : List Bool → (kind place : ℕ) → List Bool
marks_after marks k p = cond (ltb k 96) marks (set marks p true)

-- so many, from element k on
unfoldable pub roles_test : List ℕ → (reference : ℕ) (marks : List Bool) (k count : ℕ) → Bool
roles_test t r marks k zero = true
roles_test t r marks k (suc m) =
    let c = cell_at t (elements_at + 8 * k) in
    role_test r c.kind c.place (get_or marks c.place false) && roles_test t r (marks_after marks c.kind c.place) (k + 1) m

-- the marks are those of these fillers
pub record Marks (marks : List Bool) (fs : List ℕ) : Type 0 where
  pub size : length marks ≡ 256
  pub told : (p : ℕ) → p < 256 → get_or marks p false ≡ any (eqb p) fs

pub no_marks : Marks (replicate 256 false) []
unfolding any
no_marks = record { size = refl; told = λ p h. get_or-replicate 256 p false false h }

more-marks : (marks : List Bool) (fs : List ℕ) (s : ℕ) → s < 256 → Marks marks fs → Marks (set marks s true) (s ∷ fs)
unfolding any
more-marks marks fs s inside m =
    record {
      size = length-set marks s true ∙ m.size;
      told =
          λ p h.
          test_cases (λ b. eqb p s ≡ b → get_or (set marks s true) p false ≡ (b || any (eqb p) fs)) (eqb p s)
          (λ _ e.
          ap (λ (j : ℕ). get_or (set marks s true) j false) (eqb-true p s e) ∙ get_or-set_same marks s true false (omega (arith, m.size)))
          (λ _ e. get_or-set_other marks s p true false (eqb-false p s e) ∙ m.told p h) refl;
    }

-- cells of elements of a pattern, from place k on: their kinds and places
abbrev pub Cells : List ℕ → ℕ → List PatternElement → Type 0
Cells t k [] = Unit {0}
Cells t k (x ∷ xs) =
    (at : ℕ)
    × ((cell_at t (elements_at + 8 * k)).kind ≡ (pattern_cell at x).kind)
    × ((cell_at t (elements_at + 8 * k)).place ≡ (pattern_cell at x).place)
    × ((pattern_cell at x).place < 256)
    × Cells t (k + 1) xs

-- one element more, by its kind and place
roles-next : (t : List ℕ) (r : ℕ) (marks : List Bool) (k m : ℕ) {kind place : ℕ} → (cell_at t (elements_at + 8 * k)).kind ≡ kind
    → (cell_at t (elements_at + 8 * k)).place ≡ place
    → roles_test t r marks k (suc m) ≡ role_test r kind place (get_or marks place false) && roles_test t r (marks_after marks kind place) (k + 1) m
unfolding roles_test
roles-next t r marks k m e f =
    ap₂ (λ (kind place : ℕ). role_test r kind place (get_or marks place false) && roles_test t r (marks_after marks kind place) (k + 1) m) e f

module _ (t : List ℕ) (r : ℕ) where
  pub roles-tested : (marks : List Bool) (fs : List ℕ) (k : ℕ) (xs : List PatternElement) → Marks marks fs → Cells t k xs
      → roles_test t r marks k (length xs) ≡ roles_hold r fs xs
  unfolding roles_test roles_hold role_test marks_after is_among named_by place_of pattern_cell
  roles-tested marks fs k [] m cells = refl
  roles-tested marks fs k (value (literal w) ∷ xs) m (at, is, place, small, cells) =
      roles-next t r marks k (length xs) is place ∙ roles-tested marks fs (k + 1) xs m cells
  roles-tested marks fs k (value (string_call (constantly z) n) ∷ xs) m (at, is, place, small, cells) =
      roles-next t r marks k (length xs) is place ∙ roles-tested marks fs (k + 1) xs m cells
  roles-tested marks fs k (value (string_call (numbered i) n) ∷ xs) m (at, is, place, small, cells) =
      roles-next t r marks k (length xs) is place ∙ roles-tested marks fs (k + 1) xs m cells
  roles-tested marks fs k (value (part (whole s)) ∷ xs) m (at, is, place, small, cells) =
      roles-next t r marks k (length xs) is place ∙ ap₂ (λ (a b : Bool). not a && b) (m.told s small) (roles-tested marks fs (k + 1) xs m cells)
  roles-tested marks fs k (value (part (first s (constantly z))) ∷ xs) m (at, is, place, small, cells) =
      roles-next t r marks k (length xs) is place ∙ ap₂ (λ (a b : Bool). not a && b) (m.told s small) (roles-tested marks fs (k + 1) xs m cells)
  roles-tested marks fs k (value (part (first s (numbered i))) ∷ xs) m (at, is, place, small, cells) =
      roles-next t r marks k (length xs) is place ∙ ap₂ (λ (a b : Bool). not a && b) (m.told s small) (roles-tested marks fs (k + 1) xs m cells)
  roles-tested marks fs k (free_filler s ∷ xs) m (at, is, place, small, cells) =
      roles-next t r marks k (length xs) is place
      ∙ ap (λ b. not (eqb s r) && b) (roles-tested (set marks s true) (s ∷ fs) (k + 1) xs (more-marks marks fs s small m) cells)
  roles-tested marks fs k (fixed_filler s (constantly z) ∷ xs) m (at, is, place, small, cells) =
      roles-next t r marks k (length xs) is place
      ∙ ap (λ b. not (eqb s r) && b) (roles-tested (set marks s true) (s ∷ fs) (k + 1) xs (more-marks marks fs s small m) cells)
  roles-tested marks fs k (fixed_filler s (numbered i) ∷ xs) m (at, is, place, small, cells) =
      roles-next t r marks k (length xs) is place
      ∙ ap (λ b. not (eqb s r) && b) (roles-tested (set marks s true) (s ∷ fs) (k + 1) xs (more-marks marks fs s small m) cells)

-- cells that stand at their places, in a table of bytes
pub same-cells : (t : List ℕ) → ((i : ℕ) → get_or t i 0 < 256) → (k at : ℕ) (xs : List PatternElement) → SameElements t k at xs → Cells t k xs
unfolding cell_bytes cell_at
same-cells t bytes k at [] same = tt
same-cells t bytes k at (x ∷ xs) same =
    let c = pattern_cell at x in
    let place = elements_at + 8 * k in
    let stands = piece_stands t place 8 same.0 in
    let value = in_bytes 6 c.value in
    let kinds = byte-read t place c.kind (c.place ∷ value) stands in
    let places = byte-read t (place + 1) c.place value (stands_back t (c.kind ∷ []) (c.place ∷ value) stands) in
    (at, kinds, places, omega (arith, places, bytes (place + 1)), same-cells t bytes (k + 1) (at + length (literal_in x)) xs same.2)

pub marks_size_lem : (marks : List Bool) (k p : ℕ) → length (marks_after marks k p) ≡ length marks
unfolding marks_after
marks_size_lem marks k p =
    test_cases (λ b. length (cond b marks (set marks p true)) ≡ length marks) (ltb k 96) (λ _. refl) (λ _. length-set marks p true)

-- what the code's loop does up to an end: one element more, one whose role isn't as it should be, and none left
module _ (t : List ℕ) (r : ℕ) (marks : List Bool) (i end : ℕ) {x : Bool} (same : x ≡ roles_test t r marks i (end - i)) where
  pub roles-turn : {kind place : ℕ} {role : Bool} → (cell_at t (elements_at + 8 * i)).kind ≡ kind → (cell_at t (elements_at + 8 * i)).place ≡ place
      → role ≡ role_test r kind place (get_or marks place false) → i < end
      → x ≡ role && roles_test t r (marks_after marks kind place) (i + 1) (end - (i + 1))
  roles-turn {kind} {place} e f is h =
      let size : end - i ≡ suc (end - (i + 1)) = omega arith in
      same
      ∙ ap (roles_test t r marks i) size
      ∙ roles-next t r marks i (end - (i + 1)) e f
      ∙ ap (λ (b : Bool). b && roles_test t r (marks_after marks kind place) (i + 1) (end - (i + 1))) (sym is)

  pub roles_more : {kind place : ℕ} {after : List Bool} → (cell_at t (elements_at + 8 * i)).kind ≡ kind → (cell_at t (elements_at + 8 * i)).place ≡ place
      → true ≡ role_test r kind place (get_or marks place false) → i < end → length marks ≡ 256 → after ≡ marks_after marks kind place
      → (length after ≡ 256) × (x ≡ roles_test t r after (i + 1) (end - (i + 1)))
  roles_more {kind} {place} e f is h size marked = (
    ap length marked ∙ marks_size_lem marks kind place ∙ size,
    roles-turn e f is h ∙ ap (λ (l : List Bool). roles_test t r l (i + 1) (end - (i + 1))) (sym marked),
  )

  pub roles_stop : {kind place : ℕ} → (cell_at t (elements_at + 8 * i)).kind ≡ kind → (cell_at t (elements_at + 8 * i)).place ≡ place
      → false ≡ role_test r kind place (get_or marks place false) → i < end → false ≡ x
  roles_stop e f is h = sym (roles-turn e f is h)

  pub roles_done : end ≤ i → true ≡ x
  unfolding roles_test
  roles_done h = let size : end - i ≡ 0 = omega arith in sym (same ∙ ap (roles_test t r marks i) size)

-- a filler is marked, anything else isn't
pub marks-filler : (marks : List Bool) (k p : ℕ) → 96 ≤ k → set marks p true ≡ marks_after marks k p
unfolding marks_after
marks-filler marks k p h = rw (le-ltb k 96 h)

pub marks-other : (marks : List Bool) (k p : ℕ) → k < 96 → marks ≡ marks_after marks k p
unfolding marks_after
marks-other marks k p h = rw (lt-ltb k 96 h)
