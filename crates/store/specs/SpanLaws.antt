-- Laws of spans: a stretch of bytes put anew, a list turned round, zeros seen, where a record ends.
-- Assumes nothing.
use Rattle.std.specs.Prelude.{true, false, ◌&&◌, ◌≡◌, refl, ℕ, zero, suc, ◌+◌, ◌-◌, ◌<◌, ◌≤◌, eqb, get_or, length, reverse, set, take, drop}
use Rattle.std.proofs.Math.Bool.{and_assoc, and-true}
use mathlib.Core.List.{List, [], ◌∷◌, ◌++◌}
use Rattle.std.proofs.Common.{sym, ap, ◌∙◌, add-one, arith, ne_eqb}
use Rattle.std.proofs.lemmas.List.{get_or-reverse, length-reverse}
use Rattle.std.specs.List.{fold}
use Rattle.std.specs.Int.Bits.{bit_or, or_zero_l, or_add_and}
use Rattle.std.proofs.lemmas.Nat.{and_le_r}
use Rattle.std.proofs.Math.Seq.{drop-drop, length-take-le, take-suc}
use borrow.Rule.Slice.PartMut.{put_mid}
use Rattle.base.specs.Lists.{all}
use Rattle.encoding.specs.Splices.{splice, length-splice, set-splice, splice-behind}
use Rattle.cards.specs.Bytes.{newline}
use Rattle.machine.specs.Step.{record_length}
use Rattle.search.specs.NextLaws.{next-until, until_within}
use Rattle.search.specs.Passing.{NextByte, until}

-- a part of a list put anew is a splice
pub put_mid-splice : (d : List ℕ) (at k : ℕ) (v : List ℕ) → k ≡ length v → put_mid at k d v ≡ splice d at v
unfolding splice
put_mid-splice d at k v e =
    ap (λ (l : List ℕ). take at d ++ (v ++ l)) (drop-drop k at d ∙ ap (λ (n : ℕ). drop (at + n) d) e)

-- one more byte of a list turned round is put
pub turned_put : (d s : List ℕ) (i : ℕ) → i < length s → length s ≤ length d
    → set (splice d 0 (take i (reverse s))) i (get_or s (length s - 1 - i) 0) ≡ splice d 0 (take (i + 1) (reverse s))
turned_put d s i h k =
    let r = reverse s in
    let v = take i r in
    let b = get_or s (length s - 1 - i) 0 in
    let size : length v ≡ i = length-take-le i r (omega (arith, length-reverse s)) in
    let place : i ≡ 0 + length v = omega arith in
    let next : v ++ (b ∷ []) ≡ take (i + 1) r =
    ap (λ (x : ℕ). v ++ (x ∷ [])) (sym (get_or-reverse s i 0 h))
    ∙ sym (take-suc r i 0 (omega (arith, length-reverse s)))
    ∙ ap (λ (j : ℕ). take j r) (sym (add-one i)) in
    set-splice (splice d 0 v) i b (omega (arith, length-splice d 0 v (omega arith)))
    ∙ ap (λ (j : ℕ). splice (splice d 0 v) j (b ∷ [])) place
    ∙ splice-behind d 0 v (b ∷ []) (omega arith)
    ∙ ap (splice d 0) next

-- two bytes together are zero where each is
or_test : (a b : ℕ) → eqb (bit_or a b) 0 ≡ (eqb a 0 && eqb b 0)
or_test zero b = ap (λ (n : ℕ). eqb n 0) (or_zero_l b)
or_test (suc a) b =
    ne_eqb (bit_or (suc a) b) 0 (λ e. omega (arith, e, or_add_and (suc a) b, and_le_r (suc a) b))
    ∙ sym (ap (λ t. t && eqb b 0) (ne_eqb (suc a) 0 (λ e. omega arith)))

-- all bytes of a list together are zero where each is
pub zeros-folded : (s : List ℕ) (seen : ℕ) → eqb (fold bit_or seen s) 0 ≡ (eqb seen 0 && all (λ b. eqb b 0) s)
unfolding all
zeros-folded [] seen = sym (and-true (eqb seen 0))
zeros-folded (b ∷ s) seen =
    zeros-folded s (bit_or seen b)
    ∙ ap (λ t. t && all (λ b. eqb b 0) s) (or_test seen b)
    ∙ and_assoc (eqb seen 0) (eqb b 0) (all (λ b. eqb b 0) s)

-- a record reaches to byte 10 or the end
record_until : (s : List ℕ) → record_length s ≡ until 10 s
unfolding record_length newline until
record_until [] = refl
record_until (b ∷ s) = ap (λ (n : ℕ). elim (eqb b 10) [ true ↦ 0 | false ↦ suc n ]) (record_until s)

-- so it lies in the bytes that it begins
pub record_within : (s : List ℕ) → record_length s ≤ length s
record_within s = rw (record_until s) (until_within 10 s)

pub record_next : (s : List ℕ) (from at : ℕ) → NextByte s 10 from at → at - from ≡ record_length (drop from s)
record_next s from at n = omega (arith, next-until s 10 from at n, record_until (drop from s))
