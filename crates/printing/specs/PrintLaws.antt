-- Bytes put one behind the other. Assumes nothing.
use Rattle.std.specs.Prelude.{List, ◌++◌, ◌≡◌, refl, ℕ, ◌+◌, ◌≤◌, ◌<◌, ◌^◌, length, take}
use Rattle.std.proofs.Common.{append_assoc, ap, ◌∙◌, arith, length-append}
use Rattle.std.proofs.lemmas.List.Edits.{sets-eq}
use Rattle.encoding.specs.Splices.{splice, take-written, length-splice}
use Rattle.numbers.specs.Text.{DigitsStored}
use Rattle.values.specs.Conversion.{digits}
use Rattle.values.specs.Laws.{digits-length}
use Rattle.printing.specs.Printing.{Put}

-- bytes written from a place on
pub put_written : (before : List ℕ) (at : ℕ) (xs : List ℕ) → at + length xs ≤ length before
    → Put before (splice before at xs) at xs (at + length xs)
put_written before at xs room =
    let size = length-splice before at xs room in
    record { ends = refl; within = omega arith; holds = take-written before at xs (omega arith); size = size }

-- bytes stored from a place on
pub put-stored : {before after : List ℕ} {at : ℕ} {xs : List ℕ} {end : ℕ} → at + length xs ≤ length before
    → DigitsStored before after at xs end → Put before after at xs end
unfolding splice
put-stored {before} {after} {at} {xs} {end} room s =
    let same : after ≡ splice before at xs = s.holds ∙ sets-eq xs before at room ∙ append_assoc (take at before) xs _ in
    rw (same, s.ends) (put_written before at xs room)

-- bytes put behind bytes put
pub put-behind : {before middle after : List ℕ} {at from : ℕ} {xs ys : List ℕ} {end : ℕ} → Put before middle at xs from
    → Put middle after from ys end → Put before after at (xs ++ ys) end
put-behind {before} {middle} {after} {at} {from} {xs} {ys} {end} first second =
    record {
      ends = omega (arith, first.ends, second.ends, length-append xs ys);
      within = second.within;
      holds = second.holds ∙ ap (λ (l : List ℕ). l ++ ys) first.holds ∙ append_assoc (take at before) xs ys;
      size = second.size ∙ first.size;
    }

-- a number of 64 bits has 20 digits at most
pub digits_short : (v : ℕ) → v < 2 ^ 64 → length (digits v) ≤ 20
digits_short v h = digits-length 19 v (omega arith)
