-- Where numbers lie in a state. Assumes nothing.
use mathlib.Core.List.{List}
use mathlib.Core.Path.{◌≡◌, sym, ap, subst, ◌∙◌}
use Prim.Native.Nat.{ℕ, ◌+◌, ◌^◌, ◌≤◌, ◌<◌}
use native.Mathlib.Omega.{arith}
use lib.IntN.{ℤ, pos, nat_abs}
use lib.ListN.{length, take, drop, get_or, length-drop}
use lib.Seq.{get_or-drop, get_or-take, length-take-le}
use Rattle.base.specs.Current.{limit}
use Rattle.encoding.specs.Buffers.{numbers_in, numbers_at}
use Rattle.encoding.specs.NumeralLaws.{biased_small, biased-unbiased}
use Rattle.encoding.specs.Numerals.{bias, unbiased}
use Rattle.numbers.specs.Numbers.{GivesInt}
use Rattle.numbers.specs.declared.Int.{Int}
use Rattle.std.proofs.lemmas.List.{get_or-map}
use Rattle.machine.specs.State.{most_numbers, number_at}
use Rattle.evaluator.specs.Memory.{memory_in, StateNumbered}

-- a number of a state, and the 6 bytes that it is kept in
module _ (state : List ℕ) (n : StateNumbered state) (i : ℕ) (h : i < 32) where
  pub number_entry : get_or (numbers_in state) i (pos 0) ≡ unbiased (get_or state (21 + i) 0)
  unfolding numbers_in numbers_at most_numbers
  number_entry =
      let size : length (take 32 (drop 21 state)) ≡ 32 = length-take-le 32 (drop 21 state) (simp length-drop (omega (arith, n.size))) in
      get_or-map unbiased (take 32 (drop 21 state)) i 0 (pos 0) (omega arith)
      ∙ ap unbiased (get_or-take 32 (drop 21 state) i 0 h ∙ get_or-drop 21 state i 0)

  pub number_small : get_or state (21 + i) 0 < 2 ^ 48
  unfolding bias
  number_small =
      let entry = get_or state (21 + i) 0 in
      let ranged : nat_abs (unbiased entry) < 2 ^ 47 = subst (λ (z : ℤ). nat_abs z < 2 ^ 47) number_entry (omega (arith, n.range i)) in
      subst (λ (k : ℕ). k < 2 ^ 48) (biased-unbiased entry) (biased_small (unbiased entry) ranged)

  pub number_gives : (r : Int) → r.value ≡ unbiased (get_or state (21 + i) 0) → (store : List ℕ)
      → GivesInt r (number_at (memory_in store state) i)
  unfolding number_at
  number_gives r e store =
      let same : r.value ≡ get_or (numbers_in state) i (pos 0) = e ∙ sym number_entry in
      record { value = same; range = subst (λ (z : ℤ). nat_abs z ≤ limit) (sym same) (n.range i) }
