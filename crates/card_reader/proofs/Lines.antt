-- Laws of lines: where the first one ends, and what holds of all bytes of one.
-- Assumes nothing.
use mathlib.Core.Bool.{Bool, true, false, not, ◌&&◌, and-true}
use mathlib.Core.List.{List, [], ◌∷◌, ◌++◌}
use mathlib.Core.Path.{◌≡◌, refl, ap, ap₂, sym, ◌∙◌}
use Prim.Native.Nat.{ℕ, suc, ◌+◌, ◌-◌, ◌<◌}
use native.Mathlib.Omega.{arith}
use lib.Dec.{eqb}
use lib.ListN.{length, take, drop}
use lib.Seq.{drop-cons, drop-drop}
use Rattle.std.proofs.lemmas.Bool.{eq-eqb, eqb-true}
use Rattle.std.specs.Cmp.Lexicographic.{pointwise}
use Rattle.std.specs.List.{list_all}
use Rattle.base.specs.Choice.{test_cases, same_truth}
use Rattle.base.specs.ListLaws.{all_both}
use Rattle.base.specs.Lists.{all}
use Rattle.cards.specs.Bytes.{newline, star, between, class_of, is_refused}
use Rattle.cards.specs.Cards.{on_first, lines, is_comment}
use Rattle.card_reader.specs.Lines.{LineEnds}
use Rattle.search.specs.NextLaws.{next-until}
use Rattle.search.specs.Passing.{NextByte, until}

first-line : (b : ℕ) (bs : List ℕ) → lines (b ∷ bs) ≡ take (until 10 (b ∷ bs)) (b ∷ bs) ∷ lines (drop (suc (until 10 (b ∷ bs))) (b ∷ bs))
unfolding until lines on_first newline
first-line b [] =
    test_cases
    (λ t.
    elim t [ true ↦ [] ∷ lines [] | false ↦ on_first b (lines []) ]
    ≡ take (elim t [ true ↦ 0 | false ↦ 1 ]) (b ∷ []) ∷ lines (drop (suc (elim t [ true ↦ 0 | false ↦ 1 ])) (b ∷ [])))
    (eqb b 10) (λ _. refl) (λ _. refl)
first-line b (c ∷ cs) =
    let bs = c ∷ cs in
    test_cases
    (λ t.
    elim t [ true ↦ [] ∷ lines bs | false ↦ on_first b (lines bs) ]
    ≡ take (elim t [ true ↦ 0 | false ↦ suc (until 10 bs) ]) (b ∷ bs)
    ∷ lines (drop (suc (elim t [ true ↦ 0 | false ↦ suc (until 10 bs) ])) (b ∷ bs)))
    (eqb b 10) (λ _. refl) (λ _. ap (on_first b) (first-line c cs))

-- a line ends where byte 10 stands next
pub line_ends : (deck : List ℕ) (from end : ℕ) → from < length deck → NextByte deck 10 from end → LineEnds deck from end
line_ends deck from end h n =
    let rest = drop from deck in
    let same = next-until deck 10 from end n in
    let size : end - from ≡ until 10 rest = omega arith in
    let next : end + 1 ≡ from + suc (until 10 rest) = omega arith in
    let first : lines rest ≡ take (until 10 rest) rest ∷ lines (drop (suc (until 10 rest)) rest) = rw (drop-cons deck from 0 h) (first-line _ _) in
    record { low = n.low; high = n.high; first = rw (size, next, ← drop-drop) first }

-- a byte that is not refused
abbrev pub is_kept : ℕ → Bool
is_kept b = not (is_refused (class_of b))

-- one byte more is in the range
pub within_more : (xs : List ℕ) (b : ℕ) (within : Bool) → within ≡ all (between 32 126) xs
    → (within && between 32 126 b) ≡ all (between 32 126) (xs ++ b ∷ [])
unfolding all
within_more xs b within e =
    ap₂ {C = Bool} ◌&&◌ e (sym (and-true (between 32 126 b))) ∙ sym (all_both (between 32 126) xs (b ∷ []))

-- the library's words for what the definitions say of bytes
pub all-listed : (f : ℕ → Bool) (xs : List ℕ) → list_all f xs ≡ all f xs
unfolding all
all-listed f [] = refl
all-listed f (x ∷ xs) = ap (λ t. f x && t) (all-listed f xs)

pub star_leads : (xs : List ℕ) → pointwise eqb (42 ∷ []) (take 1 xs) ≡ is_comment xs
unfolding is_comment star
star_leads [] = refl
star_leads (x ∷ xs) =
    and-true (eqb 42 x)
    ∙ same_truth (eqb 42 x) (eqb x 42) (λ e. eq-eqb x 42 (sym (eqb-true 42 x e))) (λ e. eq-eqb 42 x (sym (eqb-true x 42 e)))
