-- A string appended to another one that 1,024 bytes keep. Assumes nothing.
use mathlib.Core.List.{List, ◌++◌}
use mathlib.Core.Path.{◌≡◌, sym, ap, ◌∙◌}
use Prim.Native.Nat.{ℕ, ◌+◌, ◌-◌, ◌≤◌, min}
use native.Mathlib.Nat.{min-eq_left, min-eq_right, min-le_left, min-le_right}
use native.Mathlib.Omega.{arith}
use lib.Dec.{leb}
use lib.ListN.{length, take, length-append}
use lib.Seq.{length-take-le, take_all, take-append-add, take-append-le}
use borrow.Author.Tests.{leb-true, leb-false}
use Rattle.std.proofs.lemmas.List.{take_min}
use Rattle.base.specs.Choice.{test_cases}
use Rattle.encoding.specs.Splices.{splice, length-splice, take-written}
use Rattle.evaluator.specs.Appending.{AppendedBehind, Appended}

module _ (out v : List ℕ) (at : ℕ) (size : length out ≡ 1024) where
  -- behind 1,024 bytes nothing is kept
  pub appended_none : 1024 ≤ at → Appended out out at v
  appended_none h = record { room = size; follows = follows }
    where
      follows : AppendedBehind out out at v
      follows u e k =
          take_all (length (u ++ v)) out (omega (arith, length-append u v))
          ∙ sym (take_all (length u) out (omega arith))
          ∙ k
          ∙ sym (take-append-le 1024 u v (omega arith))

  -- as many of its bytes as have room
  pub appended_least : at ≤ 1024 → (n : ℕ) → n ≡ min (1024 - at) (length v) → Appended out (splice out at (take n v)) at v
  appended_least h n least = record { room = after; follows = follows }
    where
      few : length (take n v) ≡ n
      few = length-take-le n v (omega (arith, least, min-le_right (1024 - at) (length v)))

      after : length (splice out at (take n v)) ≡ 1024
      after = length-splice out at (take n v) (omega (arith, few, least, min-le_left (1024 - at) (length v))) ∙ size

      -- the bytes end where all of it would, or where the room does
      ends : (m : ℕ) → m ≡ at + length v → take m (splice out at (take n v)) ≡ take (at + length (take n v)) (splice out at (take n v))
      ends m e =
          test_cases (λ _. take m (splice out at (take n v)) ≡ take (at + length (take n v)) (splice out at (take n v)))
          (leb (length v) (1024 - at))
          (λ t.
          let all : n ≡ length v = least ∙ min-eq_right (leb-true (length v) (1024 - at) t) in
          let same : m ≡ at + length (take n v) = omega (arith, few) in
          ap (λ (i : ℕ). take i (splice out at (take n v))) same)
          (λ f.
          let more : 1024 - at ≤ length v = omega (arith, leb-false (length v) (1024 - at) f) in
          let some : n ≡ 1024 - at = least ∙ min-eq_left more in
          take_all m (splice out at (take n v)) (omega (arith, after))
          ∙ sym (take_all (at + length (take n v)) (splice out at (take n v)) (omega (arith, after, few))))

      follows : AppendedBehind out (splice out at (take n v)) at v
      follows u e k =
          let front : take at out ≡ u = ap (λ (i : ℕ). take i out) (sym e) ∙ k ∙ take_all 1024 u (omega arith) in
          let place : length u + (1024 - at) ≡ 1024 = omega arith in
          ends (length (u ++ v)) (length-append u v ∙ ap (λ (i : ℕ). i + length v) e)
          ∙ take-written out at (take n v) (omega (arith, after, few, least, min-le_left (1024 - at) (length v)))
          ∙ ap (λ (l : List ℕ). l ++ take n v) front
          ∙ ap (λ (i : ℕ). u ++ take i v) least
          ∙ ap (λ (l : List ℕ). u ++ l) (take_min (1024 - at) v)
          ∙ sym (take-append-add u v (1024 - at))
          ∙ ap (λ (i : ℕ). take i (u ++ v)) place
