-- Bytes stored one behind the other. Assumes nothing.
use mathlib.Core.List.{List, [], ◌∷◌, ◌++◌, append_assoc}
use mathlib.Core.Path.{◌≡◌, refl, sym, ap, ◌∙◌}
use Prim.Native.Nat.{ℕ, suc, ◌+◌, ◌-◌, ◌≤◌}
use native.Mathlib.Nat.{add-zero}
use native.Mathlib.Omega.{arith}
use lib.ListN.{length, take, drop, set, replicate, length-append, length-drop, length-replicate}
use lib.Seq.{sets, sets-eq, length-sets, length-take-le, take_at, take-take}
use Rattle.std.proofs.Common.{drop-drop}
use borrow.Rule.Slice.PartMut.{put_mid, mid_of}
use Rattle.numbers.specs.Text.{DigitsStored}

-- a run of stores behind a run of stores
sets_append : (l : List ℕ) (i : ℕ) (xs ys : List ℕ) → sets (sets l i xs) (i + length xs) ys ≡ sets l i (xs ++ ys)
sets_append l i [] ys = ap (λ (k : ℕ). sets l k ys) (add-zero i)
sets_append l i (x ∷ xs) ys =
    let next : i + suc (length xs) ≡ suc i + length xs = omega arith in
    ap (λ (k : ℕ). sets (sets (set l i x) (suc i) xs) k ys) next ∙ sets_append (set l i x) (suc i) xs ys

-- bytes stored behind bytes stored
pub stored-behind : {l m n : List ℕ} {i j k : ℕ} {xs ys : List ℕ} → DigitsStored l m i xs j → DigitsStored m n j ys k → DigitsStored l n i (xs ++ ys) k
stored-behind {l} {m} {n} {i} {j} {k} {xs} {ys} first second =
    record {
      ends = simp length-append (omega (arith, first.ends, second.ends));
      holds = second.holds
          ∙ ap (λ (s : List ℕ). sets s j ys) first.holds
          ∙ ap (λ (at : ℕ). sets (sets l i xs) at ys) first.ends
          ∙ sets_append l i xs ys;
    }

-- a run of one byte put between what stands before it and what stands behind it
pub run_stored : (out : List ℕ) (at count byte : ℕ) → at + count ≤ length out
    → DigitsStored out (put_mid at (at + count - at) out (replicate (length (mid_of at (at + count - at) out)) byte)) at
    (replicate count byte) (at + count)
run_stored out at count byte room =
    let size : at + count - at ≡ count = omega arith in
    let long : length (take count (drop at out)) ≡ count = length-take-le count (drop at out) (omega (arith, length-drop at out)) in
    let all : at + length (replicate count byte) ≡ at + count = omega (arith, length-replicate count byte) in
    let run : List ℕ = replicate count byte in
    let behind : drop (at + length run) out ≡ drop count (drop at out) = ap (λ (k : ℕ). drop k out) all ∙ sym (drop-drop count at out) in
    rw (size, long)
    (record {
      ends = sym all;
      holds = sym (sets-eq run out at (omega arith)
          ∙ append_assoc (take at out) run (drop (at + length run) out)
          ∙ ap (λ (l : List ℕ). take at out ++ (run ++ l)) behind);
    })

-- one byte stored
pub stored_one : (l : List ℕ) (i b : ℕ) → DigitsStored l (set l i b) i (b ∷ []) (i + 1)
stored_one l i b = record { ends = refl; holds = refl }

module _ {l after xs : List ℕ} {end : ℕ} (stored : DigitsStored l after 0 xs end) (room : length xs ≤ length l) where
  -- what was stored at the front is read there, as far as asked
  pub take_some : (k : ℕ) → k ≤ length xs → take k after ≡ take k xs
  take_some k short =
      let all : take (length xs) (sets l 0 xs) ≡ xs =
      ap (take (length xs)) (sets-eq xs l 0 (omega arith)) ∙ take_at xs (drop (0 + length xs) l) (length xs) refl in
      ap (take k) stored.holds ∙ sym (take-take k (length xs) (sets l 0 xs) short) ∙ ap (take k) all

  -- the length stays
  pub length-stored : length after ≡ length l
  length-stored = ap length stored.holds ∙ length-sets l 0 xs
