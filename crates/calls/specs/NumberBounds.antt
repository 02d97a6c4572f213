-- What the operands and numeric expressions of a program in range come to is in range. Assumes nothing.
use Rattle.std.specs.Prelude.{true, ◌≡◌, refl, ℕ, zero, suc, ◌≤◌, eqb, ℤ, pos, negsuc, neg_ℤ, nat_abs, ◌+ℤ◌, ◌-ℤ◌, ◌*ℤ◌, get_or}
use Rattle.std.proofs.Math.Bool.{and-eq-true_iff}
use mathlib.Core.List.{List, [], ◌∷◌}
use native.Mathlib.Omega.{arith}
use Rattle.std.proofs.Math.ListN.{length}
use Rattle.std.specs.Int.Signed.{quot_z}
use Rattle.std.proofs.Common.{leb-true}
use Rattle.base.specs.Choice.{cond_cases}
use Rattle.base.specs.Edition.{Edition}
use Rattle.base.specs.Lists.{begins, all}
use Rattle.base.specs.Text.{bytes}
use Rattle.syntax.specs.Program.{Operand, constant, variable, length_of, number_of, Operator, plus, minus, times, over}
use Rattle.syntax.specs.Program.{Sign, positive, negative, Item, operand, operator, sign, Test, is_null, is_numeric, compares}
use Rattle.machine.specs.Bounds.{MemoryBounded, part_ends_lem}
use Rattle.machine.specs.Ends.{Ending, ends, stops, AnyValue, ends_bind}
use Rattle.machine.specs.Expressions.{operand_in, operation, combined, sign_in, item_in, items_in, latest, numeric_in}
use Rattle.machine.specs.Expressions.{numeric_part, test_in}
use Rattle.machine.specs.State.{Memory, string_at}
use Rattle.values.specs.Conversion as Conversion
use Rattle.values.specs.Conversion.{longest_string, signed_by, decimal, unsigned_part}
use Rattle.values.specs.Numbers.{is_in_range, held, sum, difference, product, quotient}
use Rattle.values.specs.Result.{pure, stops_step}
use Rattle.encoding.specs.RuleLaws.{test_holds}
use Rattle.encoding.specs.Rules.{operand_holds, item_holds}

-- a number in the range of the edition
abbrev pub Ranged : Edition → ℤ → Type 0
Ranged e z = nat_abs z ≤ e.limit

-- the test says so
pub ranged : (e : Edition) (z : ℤ) → is_in_range e z ≡ true → Ranged e z
unfolding is_in_range
ranged e z h = leb-true (nat_abs z) e.limit h

module _ (e : Edition) where
  held_ranged : (z : ℤ) → Ending (Ranged e) (held e z)
  unfolding held stops_step
  held_ranged z =
      cond_cases (Ending (Ranged e)) (is_in_range e z) (λ q. ends (ranged e z q)) (λ q. stops refl)

  number_ranged : (s : List ℕ) → Ending (Ranged e) (Conversion.number_of e s)
  unfolding Conversion.number_of
  number_ranged s =
      cond_cases (Ending (Ranged e)) (Conversion.is_numeric s)
      (λ q. held_ranged (signed_by (begins (bytes "-") s) (decimal 0 (unsigned_part s))))
      (λ q. ends (omega arith))

  operation_ranged : (o : Operator) (a b : ℤ) → Ending (Ranged e) (operation e o a b)
  unfolding operation sum difference product quotient stops_step
  operation_ranged plus a b = held_ranged (a +ℤ b)
  operation_ranged minus a b = held_ranged (a -ℤ b)
  operation_ranged times a b = held_ranged (a *ℤ b)
  operation_ranged over a b =
      cond_cases (Ending (Ranged e)) (eqb (nat_abs b) 0) (λ q. stops refl) (λ q. held_ranged (quot_z a b))

  negative_ranged : (z : ℤ) → Ranged e z → Ranged e (neg_ℤ z)
  negative_ranged (pos zero) h = h
  negative_ranged (pos (suc n)) h = h
  negative_ranged (negsuc n) h = h

  -- every number known is in range
  abbrev ValuesKnown : List ℤ → Type 0
  ValuesKnown known = (i : ℕ) → Ranged e (get_or known i (pos 0))

  known_cons : (z : ℤ) (known : List ℤ) → Ranged e z → ValuesKnown known → ValuesKnown (z ∷ known)
  known_cons z known h k zero = h
  known_cons z known h k (suc i) = k i

  combined-known : (o : Operator) (known : List ℤ) → ValuesKnown known → Ending ValuesKnown (combined (operation e o) known)
  unfolding combined pure
  combined-known o [] k = ends k
  combined-known o (b ∷ []) k = ends k
  combined-known o (b ∷ (a ∷ known)) k =
      ends_bind (operation_ranged o a b) (λ z h. ends (known_cons z known h (λ i. k (suc (suc i)))))

  sign_known : (s : Sign) (known : List ℤ) → ValuesKnown known → ValuesKnown (sign_in s known)
  unfolding sign_in
  sign_known positive known k = k
  sign_known negative [] k = k
  sign_known negative (a ∷ known) k = known_cons (neg_ℤ a) known (negative_ranged a (k 0)) (λ i. k (suc i))

  latest-known : (known : List ℤ) → ValuesKnown known → Ranged e (latest known)
  unfolding latest
  latest-known [] k = omega arith
  latest-known (z ∷ known) k = k 0

-- a string's length is a number in range, and the memory is within its bounds
module _ (e : Edition) (wide : longest_string ≤ e.limit) (strings numbers steps : ℕ) (m : Memory) (b : MemoryBounded e m) where
  operand_ranged : (a : Operand) → operand_holds e strings numbers steps a ≡ true → Ending (Ranged e) (operand_in e m a)
  unfolding operand_holds operand_in pure
  operand_ranged (constant z) h = ends (ranged e z h)
  operand_ranged (variable i) h = ends (b.held i)
  operand_ranged (length_of s) h = let inside : length (string_at m s) ≤ e.limit = omega (arith, b.short s) in ends inside
  operand_ranged (number_of p) h = ends_bind (part_ends_lem e m p) (λ s _. number_ranged e s)

  item_known : (known : List ℤ) (x : Item) → item_holds e strings numbers steps x ≡ true → ValuesKnown e known
      → Ending (ValuesKnown e) (item_in e m known x)
  unfolding item_holds operand_holds item_in pure
  item_known known (operand a) h k = ends_bind (operand_ranged a h) (λ z g. ends (known_cons e z known g k))
  item_known known (operator o) h k = combined-known e o known k
  item_known known (sign s) h k = ends (sign_known e s known k)

  items-known : (known : List ℤ) (xs : List Item) → all (item_holds e strings numbers steps) xs ≡ true → ValuesKnown e known
      → Ending (ValuesKnown e) (items_in e m known xs)
  unfolding all items_in pure
  items-known known [] h k = ends k
  items-known known (x ∷ xs) h k =
      let both = (and-eq-true_iff (item_holds e strings numbers steps x) (all (item_holds e strings numbers steps) xs)).0 h in
      ends_bind (item_known known x both.0 k) (λ more g. items-known more xs both.1 g)

  -- the value of a numeric expression
  pub expression_ranged : (xs : List Item) → all (item_holds e strings numbers steps) xs ≡ true → Ending (Ranged e) (numeric_in e m xs)
  unfolding numeric_in pure
  expression_ranged xs h = ends_bind (items-known [] xs h (λ i. omega arith)) (λ known k. ends (latest-known e known k))

  -- a test
  pub test_ends : (t : Test) → test_holds e strings numbers steps t ≡ true → Ending AnyValue (test_in e m t)
  unfolding test_holds test_in numeric_part pure
  test_ends (is_null s) h = ends tt
  test_ends (is_numeric p) h = ends_bind (part_ends_lem e m p) (λ s _. ends tt)
  test_ends (compares x c y) h =
      let both = (and-eq-true_iff (operand_holds e strings numbers steps x) (operand_holds e strings numbers steps y)).0 h in
      ends_bind (operand_ranged x both.0) (λ _ _. ends_bind (operand_ranged y both.1) (λ _ _. ends tt))
