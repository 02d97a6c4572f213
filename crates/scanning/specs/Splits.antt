-- Document 01, "Scan": elements, splits, when a split fits, the order of splits and the first fit. These declare what is right and
-- name no algorithm. Assumes nothing.
use Rattle.std.specs.Prelude.{Bool, true, false, List, [], ◌∷◌, ◌↔◌, ◌⊎◌, ◌≢◌, ◌≡◌, ℕ, ◌≤◌, ◌<◌, length, take, drop}
use Rattle.std.proofs.Math.Option.{Option, none, some}
use Rattle.base.specs.Lists.{is_nil}

-- N1 "An element is a string, a fixed filler with its length, or a free filler.": all document 01's words
pub data Element : Type 0 where
  string : List ℕ → Element
  fixed : ℕ → Element
  free : Element

-- Split is document 01's word (N3). The request: "A split is a start in the reference and a length for each element, so that the pieces lie end to
-- end."
pub record Split : Type 0 where
  pub start : ℕ
  pub lengths : List ℕ

-- N2 "A string's piece equals it, a fixed filler's has its length, a free filler's any length; a free filler that is last reaches
-- the reference's end." The piece is the first l bytes of rest, the reference from where the piece starts.
unfoldable pub Suits : Element → Bool → List ℕ → ℕ → Type 0
Suits (string w) last rest l = take l rest ≡ w
Suits (fixed n) last rest l = l ≡ n
Suits free false rest l = Unit {0}
Suits free true rest l = l ≡ length rest

-- each piece ends inside and suits its element, and the next one starts where it ends; there is one for each element
unfoldable pub PiecesFit : List Element → List ℕ → List ℕ → Type 0
PiecesFit [] rest [] = Unit {0}
PiecesFit [] rest (l ∷ ls) = ⊥
PiecesFit (e ∷ p) rest [] = ⊥
PiecesFit (e ∷ p) rest (l ∷ ls) = (l ≤ length rest) × Suits e (is_nil p) rest l × PiecesFit p (drop l rest) ls

-- N3 "A split starts at any place from 0 to the reference's length; it fits when its pieces end inside and each is as just said."
unfoldable pub Fits : List Element → List ℕ → Split → Type 0
Fits p r s = (s.start ≤ length r) × PiecesFit p (drop s.start r) s.lengths

-- "longer at the first piece where the two differ"
unfoldable pub Longer : List ℕ → List ℕ → Type 0
Longer [] ms = ⊥
Longer (l ∷ ls) [] = ⊥
Longer (l ∷ ls) (m ∷ ms) = (m < l) ⊎ ((l ≡ m) × Longer ls ms)

-- demand 3: t "starts further right or, from the same start, is longer at the first piece where the two differ"
unfoldable pub Later : Split → Split → Type 0
Later t s = (s.start < t.start) ⊎ ((t.start ≡ s.start) × Longer t.lengths s.lengths)

-- demand 3: a split that fits, while every other split that fits comes later
unfoldable pub FirstFit : List Element → List ℕ → Split → Type 0
FirstFit p r s = Fits p r s × ((t : Split) → Fits p r t → t ≢ s → Later t s)

-- demand 3: it "fails exactly when no split fits. Otherwise it answers the first fit: a split put forward equals this one exactly when
-- it fits and every other split that fits" comes later
pub record AnswersFirstFit (p : List Element) (r : List ℕ) (answer : Option Split) : Type 0 where
  pub fails : (answer ≡ none) ↔ ((s : Split) → ¬ Fits p r s)
  pub first : (a : Split) → answer ≡ some a → (s : Split) → (s ≡ a) ↔ FirstFit p r s
