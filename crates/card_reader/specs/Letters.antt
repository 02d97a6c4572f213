-- How many letters some bytes have, and how they become fewer. Assumes nothing.
use Rattle.std.proofs.Math.Bool.{true, false}
use Rattle.std.proofs.lemmas.Bool.{false≢true}
use mathlib.Core.List.{List, [], ◌∷◌, ◌++◌}
use Rattle.std.specs.Prelude.{◌≡◌, ℕ, suc, ◌+◌, ◌-◌, ◌≤◌, ◌<◌, take, drop, get_or}
use Rattle.std.proofs.Common.{◌∙◌, arith, take-append-drop, drop-drop}
use Rattle.std.proofs.Math.Path.{ap}
use Rattle.std.proofs.Math.ListN.{length, length-append}
use Rattle.base.specs.ListLaws.{keep_append}
use Rattle.base.specs.Choice.{test_cases}
use Rattle.base.specs.Lists.{keep}
use Rattle.cards.specs.Bytes.{between, is_letter}
use Rattle.cards.specs.Packing.{Place, place_after, is_dropped, pack_from}

-- The letters among some bytes. The names in a statement are bounded by them, since each begins with one. Bytes would be no bound: blanks that
-- a card rule fills in may make a packed statement longer than its lines, but they add no letter.
unfoldable pub letters : List ℕ → ℕ
letters bs = length (keep is_letter bs)

-- the letters of two parts
pub letters-append : (xs ys : List ℕ) → letters (xs ++ ys) ≡ letters xs + letters ys
unfolding letters
letters-append xs ys = ap length (keep_append is_letter xs ys) ∙ length-append (keep is_letter xs) (keep is_letter ys)

-- a byte is one letter or none
module _ (b : ℕ) where
  letters-one : letters (b ∷ []) ≤ 1
  unfolding letters keep
  letters-one =
      test_cases (λ t. length {A = ℕ} (elim t [ true ↦ b ∷ [] | false ↦ [] ]) ≤ 1) (is_letter b) (λ _. omega arith) (λ _. omega arith)

  letters_letter : is_letter b ≡ true → letters (b ∷ []) ≡ 1
  unfolding letters keep
  letters_letter e = ap {B = ℕ} (λ t. length {A = ℕ} (elim t [ true ↦ b ∷ [] | false ↦ [] ])) e

-- there are no more letters than bytes
pub letters_few : (bs : List ℕ) → letters bs ≤ length bs
unfolding letters keep
letters_few [] = omega arith
letters_few (b ∷ bs) = omega (arith, letters_few bs, letters-one b, letters-append (b ∷ []) bs)

-- in a part there are no more than in the whole: in the first bytes, in what lies behind some, in what is left when packed
pub letters-front : (n : ℕ) (bs : List ℕ) → letters (take n bs) ≤ letters bs
letters-front n bs = omega (arith, ap letters (take-append-drop n bs), letters-append (take n bs) (drop n bs))

pub letters-behind : (n : ℕ) (bs : List ℕ) → letters (drop n bs) ≤ letters bs
letters-behind n bs = omega (arith, ap letters (take-append-drop n bs), letters-append (take n bs) (drop n bs))

pub letters-packed : (place : Place) (bs : List ℕ) → letters (pack_from place bs) ≤ letters bs
unfolding pack_from
letters-packed place [] = omega arith
letters-packed place (b ∷ bs) =
    let kept = pack_from (place_after place b) bs in
    let rest = letters-packed (place_after place b) bs in
    let whole = letters-append (b ∷ []) bs in
    test_cases (λ t. letters (elim t as (λ _. List ℕ) [ true ↦ kept | false ↦ b ∷ kept ]) ≤ letters (b ∷ bs)) (is_dropped place b)
    (λ _. omega (arith, rest, whole)) (λ _. omega (arith, rest, whole, letters-append (b ∷ []) kept))

-- behind a letter there are fewer
past_first : (n : ℕ) (bs : List ℕ) → is_letter (get_or bs 0 0) ≡ true → letters (drop (suc n) bs) < letters bs
unfolding is_letter between
past_first n [] e = absurd (false≢true e)
past_first n (b ∷ bs) e = omega (arith, letters-behind n bs, letters-append (b ∷ []) bs, letters_letter b e)

-- at a later place of a text there are no more left, and fewer if a letter stands at the place before
module _ (text : List ℕ) (i j : ℕ) where
  pub letters_on : i ≤ j → letters (drop j text) ≤ letters (drop i text)
  letters_on h =
      let place : i + (j - i) ≡ j = omega arith in
      omega (arith, letters-behind (j - i) (drop i text), ap letters (drop-drop (j - i) i text ∙ ap (λ k. drop k text) place))

  pub letters-past : i < j → is_letter (get_or (drop i text) 0 0) ≡ true → letters (drop j text) < letters (drop i text)
  letters-past h e =
      let place : i + suc (j - i - 1) ≡ j = omega arith in
      omega
      (arith, past_first (j - i - 1) (drop i text) e, ap letters (drop-drop (suc (j - i - 1)) i text ∙ ap (λ k. drop k text) place))
