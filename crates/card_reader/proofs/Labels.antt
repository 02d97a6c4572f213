-- Laws of a label's bytes and their key, byte by byte from the right.
-- Assumes nothing.
use mathlib.Core.Bool.{true, false, not}
use mathlib.Core.List.{List, [], ◌∷◌, ◌++◌, map, reverse}
use mathlib.Core.Path.{◌≡◌, refl, ap, sym, ◌∙◌}
use Prim.Native.Nat.{ℕ, suc, ◌+◌, ◌*◌, ◌^◌, ◌≤◌, ◌<◌}
use denote.Ref.{Bor}
use native.Mathlib.Nat.{lt_of_lt_of_le, min-le_left, pow-le-pow_right, pow-succ'}
use native.Mathlib.Omega.{arith}
use lib.ListN.{length, take, length-take}
use Rattle.std.proofs.lemmas.List.{length-append, length-map, length-reverse, reverse-append}
use Rattle.base.specs.Choice.{test_cases}
use Rattle.base.specs.Lists.{keep}
use Rattle.cards.specs.Bytes.{is_blank}
use Rattle.cards.specs.Cards.{without_blanks}
use Rattle.card_reader.specs.Keys.{key_of}

-- the key of the bytes from i on, one byte further to the left
key-with : (b : ℕ) (bs : List ℕ) → is_blank b ≡ false → key_of (without_blanks (b ∷ bs)) ≡ 256 * key_of (without_blanks bs) + b
unfolding key_of without_blanks keep
key-with b bs other = ap (λ t. key_of (elim (not t) [ true ↦ b ∷ without_blanks bs | false ↦ without_blanks bs ])) other

key_without : (b : ℕ) (bs : List ℕ) → is_blank b ≡ true → key_of (without_blanks (b ∷ bs)) ≡ key_of (without_blanks bs)
unfolding key_of without_blanks keep
key_without b bs blank = ap (λ t. key_of (elim (not t) [ true ↦ b ∷ without_blanks bs | false ↦ without_blanks bs ])) blank

-- no byte is added where blanks are dropped
pub blanks_less : (xs : List ℕ) → length (without_blanks xs) ≤ length xs
unfolding without_blanks keep
blanks_less [] = omega arith
blanks_less (x ∷ xs) =
    let rest = blanks_less xs in
    test_cases (λ t. length {A = ℕ} (elim t [ true ↦ x ∷ without_blanks xs | false ↦ without_blanks xs ]) ≤ suc (length xs)) (not (is_blank x))
    (λ _. omega arith) (λ _. omega arith)

-- at most n bytes are in front
pub front_short : (n : ℕ) (xs ys : List ℕ) → ys ≡ take n xs → length ys ≤ n
front_short n xs ys e = rw (e, length-take) (min-le_left n (length xs))

power-small : (n : ℕ) → n < 8 → 256 ^ n ≤ 256 ^ 7
power-small n few = let le : n ≤ 7 = omega arith in pow-le-pow_right (omega arith) le

-- of at most 8 bytes some are gone through before the last one
pub seen_few : (name bytes : List ℕ) (seen : List (Bor ℕ)) → bytes ≡ take 8 name → length seen < length (reverse bytes) →
    length (map (λ y. y.now) seen) < 8
seen_few name bytes seen e h =
    rw (length-map seen (λ y. y.now)) (omega (arith, front_short 8 name bytes e, length-reverse bytes))

-- the key of the bytes gone through from the last one back, with its bound
pub record Keyed (seen : List ℕ) (key : ℕ) : Type 0 where
  pub is : key ≡ key_of (without_blanks (reverse seen))
  pub fits : key < 256 ^ length seen

pub keyed_start : Keyed [] 0
unfolding key_of without_blanks keep
keyed_start = record { is = refl; fits = omega arith }

module _ {seen : List ℕ} {key : ℕ} (k : Keyed seen key) where
  module _ (b : ℕ) where
    last : reverse (seen ++ b ∷ []) ≡ b ∷ reverse seen
    last = reverse-append seen (b ∷ [])

    power : 256 ^ length (seen ++ b ∷ []) ≡ 256 * 256 ^ length seen
    power =
        let one : length (seen ++ b ∷ []) ≡ suc (length seen) = rw (length-append seen (b ∷ [])) (omega arith) in
        rw one (pow-succ' 256 (length seen))

    pub keyed-with : is_blank b ≡ false → b < 256 → Keyed (seen ++ b ∷ []) (256 * key + b)
    keyed-with other byte =
        record {
          is = ap (λ (n : ℕ). 256 * n + b) k.is ∙ sym (ap (λ (l : List ℕ). key_of (without_blanks l)) last ∙ key-with b (reverse seen) other);
          fits = let f = k.fits in omega (arith, power);
        }

    pub keyed_without : is_blank b ≡ true → Keyed (seen ++ b ∷ []) key
    keyed_without blank =
        record {
          is = k.is ∙ sym (ap (λ (l : List ℕ). key_of (without_blanks l)) last ∙ key_without b (reverse seen) blank);
          fits = let f = k.fits in omega (arith, power);
        }

  pub keyed_small : length seen < 8 → key < 72057594037927936
  keyed_small few =
      let most : 256 ^ length seen ≤ 256 ^ 7 = power-small (length seen) few in lt_of_lt_of_le k.fits most
