-- How many notes come with operands, expressions and tests: few enough to be counted in 32 bits. Assumes nothing.
use mathlib.Core.List.{List, [], ◌∷◌, ◌++◌}
use Rattle.std.specs.Prelude.{◌≡◌, ℕ, suc, ◌+◌, ◌≤◌, eqb, leb, ltb, ℤ, nat_abs}
use Rattle.std.proofs.Common.{subst}
use native.Mathlib.Omega.{arith}
use Rattle.std.proofs.Math.ListN.{length}
use Rattle.base.specs.Choice.{cond_cases}
use Rattle.base.specs.Edition.{Edition}
use Rattle.base.specs.Lists.{begins}
use Rattle.base.specs.Text.{bytes}
use Rattle.encoding.specs.ReadingLaws.{length-elements}
use Rattle.encoding.specs.TableReading.{read_elements}
use Rattle.syntax.specs.Program.{Part, whole, first, Operand, constant, variable, length_of, number_of}
use Rattle.syntax.specs.Program.{Operator, plus, minus, times, over, Item, operand, operator, sign}
use Rattle.syntax.specs.Program.{Element, literal, part, string_call}
use Rattle.machine.specs.Expressions.{length_in, part_in, operand_in, operation, combined, item_in, element_in, string_in}
use Rattle.machine.specs.State.{Memory, number_at}
use Rattle.values.specs.Conversion as Conversion
use Rattle.values.specs.Conversion.{substring, unsigned_part, decimal, signed_by, text_of, filled, longest_string, sign_of, digits}
use Rattle.values.specs.Numbers.{is_negative, is_in_range, held, sum, difference, product, quotient}
use Rattle.values.specs.Result.{Result, done, stop, with_notes, pure, ◌>>=◌}

-- work that gives at most so many notes, if it is done
abbrev pub FewNotes : {A : Type 0} → ℕ → Result A → Type 0
FewNotes most (done a n) = n ≤ most
FewNotes most (stop k) = Unit {0}

-- work that is done, with its notes
pub few_done : {A : Type 0} {most n : ℕ} {a : A} {w : Result A} → FewNotes most w → w ≡ done a n → n ≤ most
few_done {most = most} h e = subst (FewNotes most) e h

-- few notes are no more than many
pub few_more : {A : Type 0} (most more : ℕ) (w : Result A) → most ≤ more → FewNotes most w → FewNotes more w
few_more most more (done a n) h g = omega arith
few_more most more (stop k) h g = tt

few_notes : {A : Type 0} (n most more : ℕ) (w : Result A) → n ≤ most → FewNotes more w → FewNotes (most + more) (with_notes n w)
unfolding with_notes
few_notes n most more (done a m) h g = omega arith
few_notes n most more (stop k) h g = tt

-- one work behind another
pub few_bind : {A B : Type 0} (most more : ℕ) (w : Result A) (f : A → Result B) → FewNotes most w → ((a : A) → FewNotes more (f a))
    → FewNotes (most + more) (w >>= f)
unfolding ◌>>=◌
few_bind most more (done a n) f h g = few_notes n most more (f a) h (g a)
few_bind most more (stop k) f h g = tt

few_pure : {A B : Type 0} (most : ℕ) (w : Result A) (f : A → B) → FewNotes most w → FewNotes most (w >>= λ a. pure (f a))
unfolding ◌>>=◌ pure with_notes
few_pure most (done a n) f h = omega arith
few_pure most (stop k) f h = tt

-- a part of a string, a number, NUMBER and STRING
module _ (m : Memory) where
  pub few_part : (p : Part) → FewNotes 1 (part_in m p)
  unfolding part_in substring pure
  few_part (whole s) = omega arith
  few_part (first s n) = cond_cases (FewNotes 1) (is_negative (length_in m n)) (λ _. omega arith) (λ _. omega arith)

few_held : (e : Edition) (z : ℤ) → FewNotes 0 (held e z)
unfolding held
few_held e z = cond_cases (FewNotes 0) (is_in_range e z) (λ _. omega arith) (λ _. tt)

pub few_number : (e : Edition) (s : List ℕ) → FewNotes 1 (Conversion.number_of e s)
unfolding Conversion.number_of
few_number e s =
    let z = signed_by (begins (bytes "-") s) (decimal 0 (unsigned_part s)) in
    cond_cases (FewNotes 1) (Conversion.is_numeric s) (λ _. few_more 0 1 (held e z) (omega arith) (few_held e z)) (λ _. omega arith)

pub few_text : (n m : ℤ) → FewNotes 1 (text_of n m)
unfolding text_of filled
few_text n m =
    cond_cases (FewNotes 1) (eqb (nat_abs n) 0) (λ _. omega arith) (λ _.
    cond_cases (FewNotes 1) (ltb longest_string (nat_abs n)) (λ _. tt) (λ _.
    cond_cases (FewNotes 1) (leb (length (sign_of m) + length (digits (nat_abs m))) (nat_abs n)) (λ _. omega arith) (λ _. omega arith)))

pub few_operation : (e : Edition) (o : Operator) (a b : ℤ) → FewNotes 0 (operation e o a b)
unfolding operation sum difference product quotient
few_operation e plus a b = few_held e _
few_operation e minus a b = few_held e _
few_operation e times a b = few_held e _
few_operation e over a b = cond_cases (FewNotes 0) (eqb (nat_abs b) 0) (λ _. tt) (λ _. few_held e _)

few_combined : (f : ℤ → ℤ → Result ℤ) → ((a b : ℤ) → FewNotes 0 (f a b)) → (known : List ℤ) → FewNotes 0 (combined f known)
unfolding combined pure
few_combined f h [] = omega arith
few_combined f h (b ∷ []) = omega arith
few_combined f h (b ∷ (a ∷ known)) = few_pure 0 (f a b) (λ z. z ∷ known) (h a b)

module _ (e : Edition) (m : Memory) where
  pub few_operand : (a : Operand) → FewNotes 2 (operand_in e m a)
  unfolding operand_in pure
  few_operand (constant z) = omega arith
  few_operand (variable i) = omega arith
  few_operand (length_of s) = omega arith
  few_operand (number_of p) = few_bind 1 1 (part_in m p) (λ s. Conversion.number_of e s) (few_part m p) (few_number e)

  pub few_item : (known : List ℤ) (x : Item) → FewNotes 2 (item_in e m known x)
  unfolding item_in pure
  few_item known (operand a) = few_pure 2 (operand_in e m a) (λ z. z ∷ known) (few_operand a)
  few_item known (operator o) =
      few_more 0 2 (combined (operation e o) known) (omega arith) (few_combined (operation e o) (few_operation e o) known)
  few_item known (sign s) = omega arith

  -- at most one for each element
  pub few_element : (x : Element) → FewNotes 1 (element_in e m x)
  unfolding element_in pure
  few_element (literal w) = omega arith
  few_element (part p) = few_part m p
  few_element (string_call n i) = few_text (length_in m n) (number_at m i)

  pub few_string : (xs : List Element) → FewNotes (length xs) (string_in e m xs)
  unfolding string_in pure
  few_string [] = omega arith
  few_string (x ∷ xs) =
      let behind : (v : List ℕ) → Result (List ℕ) = λ v. string_in e m xs >>= λ vs. pure (v ++ vs) in
      few_more (1 + length xs) (suc (length xs)) (element_in e m x >>= behind) (omega arith)
      (few_bind 1 (length xs) (element_in e m x) behind (few_element x)
      (λ v. few_pure (length xs) (string_in e m xs) (λ vs. v ++ vs) (few_string xs)))

  -- the expressions of a table
  pub few_elements_spelt : (t : List ℕ) (at n : ℕ) → FewNotes n (string_in e m (read_elements t at n))
  few_elements_spelt t at n =
      subst (λ (k : ℕ). FewNotes k (string_in e m (read_elements t at n))) (length-elements t at n) (few_string (read_elements t at n))
