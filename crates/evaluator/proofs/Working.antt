-- Results that follow each other, as answers stand for them. Assumes nothing.
use mathlib.Core.List.{List, [], ◌∷◌, ◌++◌, append_assoc, append-nil}
use mathlib.Core.Path.{◌≡◌, refl, sym, ap, ap₂, ◌∙◌}
use Prim.Native.Nat.{ℕ, ◌+◌, ◌≤◌}
use native.Mathlib.Nat.{add-zero}
use lib.IntN.{ℤ}
use Rattle.base.specs.Current.{current}
use Rattle.numbers.specs.Laws.{number_is, number_range, number_stops}
use Rattle.numbers.specs.Numbers.{Number, NumberAnswers}
use Rattle.numbers.specs.declared.Int.{Int}
use Rattle.std.specs.Prelude.{Ok, Err}
use Rattle.values.specs.declared.Noted.{Noted}
use Rattle.values.specs.declared.Stop.{Stop}
use Rattle.syntax.specs.Program.{Operand, Item, Element}
use Rattle.machine.specs.Expressions.{operand_in, item_in, items_in, latest, numeric_in, element_in, string_in}
use Rattle.machine.specs.State.{Memory}
use Rattle.values.specs.Result.{Result, done, stop, with_notes, pure, ◌>>=◌}
use Rattle.values.specs.ResultLaws.{notes_none, notes_more, bind_notes, pure-done}
use Rattle.evaluator.specs.Notes.{few_done, few_operand}

-- an answer that comes behind notes
module _ (n : ℕ) {r : Number} {w : Result ℤ} (a : NumberAnswers r w) where
  pub number_noted : {v : Noted Int} → r ≡ Ok v → NumberAnswers (Ok (record { value = v.value; notes = n + v.notes })) (with_notes n w)
  unfolding with_notes
  number_noted e = record { work = ap (with_notes n) (sym (number_is a e)); range = number_range a e }

  pub number_stopped : {s : Stop} → r ≡ Err s → NumberAnswers (Err s) (with_notes n w)
  unfolding with_notes
  number_stopped e = record { work = ap (with_notes n) (sym (number_stops a e)); range = tt }

-- the notes of an operand's value
pub operand_notes : (m : Memory) (a : Operand) {r : Number} {v : Noted Int} → NumberAnswers r (operand_in current m a) → r ≡ Ok v → v.notes ≤ 2
operand_notes m a x e = few_done (few_operand current m a) (number_is x e)

-- a string put in front of one, and then another in front of both
quiet_front : (u v : List ℕ) (w : Result (List ℕ)) → ((w >>= λ vs. pure (v ++ vs)) >>= λ vs. pure (u ++ vs))
    ≡ (w >>= λ vs. pure ((u ++ v) ++ vs))
unfolding ◌>>=◌ with_notes pure
quiet_front u v (done vs n) = ap (λ l. done l (n + 0 + 0)) (sym (append_assoc u v vs)) ∙ ap (done ((u ++ v) ++ vs)) (add-zero (n + 0))
quiet_front u v (stop k) = refl

module _ (m : Memory) where
  -- what a numeric expression comes to from its waiting numbers and the items that are left, with the notes so far
  unfoldable pub numeric_from : ℕ → List ℤ → List Item → Result ℤ
  numeric_from notes known is = with_notes notes (items_in current m known is >>= λ more. pure (latest more))

  pub numeric_begins : (is : List Item) → numeric_in current m is ≡ numeric_from 0 [] is
  unfolding numeric_in numeric_from
  numeric_begins is = sym (notes_none (items_in current m [] is >>= λ more. pure (latest more)))

  pub numeric_more : (notes more : ℕ) (known next : List ℤ) (x : Item) (is : List Item) → item_in current m known x ≡ done next more
      → numeric_from notes known (x ∷ is) ≡ numeric_from (notes + more) next is
  unfolding numeric_from items_in ◌>>=◌
  numeric_more notes more known next x is e =
      let rest : (z : List ℤ) → Result ℤ = λ z. pure (latest z) in
      ap (λ w. with_notes notes ((w >>= λ z. items_in current m z is) >>= rest)) e
      ∙ ap (with_notes notes) (bind_notes more (items_in current m next is) rest)
      ∙ notes_more notes more (items_in current m next is >>= rest)

  pub numeric_stops : (notes k : ℕ) (known : List ℤ) (x : Item) (is : List Item) → item_in current m known x ≡ stop k
      → numeric_from notes known (x ∷ is) ≡ stop k
  unfolding numeric_from items_in ◌>>=◌ with_notes
  numeric_stops notes k known x is e =
      ap (λ w. with_notes notes ((w >>= λ z. items_in current m z is) >>= λ z. pure (latest z))) e

  pub numeric_ends : (notes : ℕ) (z : ℤ) (known : List ℤ) → numeric_from notes (z ∷ known) [] ≡ done z notes
  unfolding numeric_from items_in ◌>>=◌ with_notes pure latest
  numeric_ends notes z known = ap (done z) (add-zero notes)

  -- what a string expression comes to from the bytes so far and the elements that are left, with the notes so far
  unfoldable pub string_from : ℕ → List ℕ → List Element → Result (List ℕ)
  string_from notes u xs = with_notes notes (string_in current m xs >>= λ vs. pure (u ++ vs))

  pub string-begins : (xs : List Element) → string_in current m xs ≡ string_from 0 [] xs
  unfolding string_from
  string-begins xs = sym (notes_none (string_in current m xs >>= λ vs. pure vs) ∙ pure-done (string_in current m xs))

  pub string-more : (notes more : ℕ) (u v : List ℕ) (x : Element) (xs : List Element) → element_in current m x ≡ done v more
      → string_from notes u (x ∷ xs) ≡ string_from (notes + more) (u ++ v) xs
  unfolding string_from string_in ◌>>=◌
  string-more notes more u v x xs e =
      let rest = string_in current m xs in
      let front : (vs : List ℕ) → Result (List ℕ) = λ vs. pure (u ++ vs) in
      ap (λ w. with_notes notes ((w >>= λ v. rest >>= λ vs. pure (v ++ vs)) >>= front)) e
      ∙ ap (with_notes notes) (bind_notes more (rest >>= λ vs. pure (v ++ vs)) front ∙ ap (with_notes more) (quiet_front u v rest))
      ∙ notes_more notes more (rest >>= λ vs. pure ((u ++ v) ++ vs))

  pub string_stops : (notes k : ℕ) (u : List ℕ) (x : Element) (xs : List Element) → element_in current m x ≡ stop k
      → string_from notes u (x ∷ xs) ≡ stop k
  unfolding string_from string_in ◌>>=◌ with_notes
  string_stops notes k u x xs e =
      ap (λ w. with_notes notes ((w >>= λ v. string_in current m xs >>= λ vs. pure (v ++ vs)) >>= λ vs. pure (u ++ vs))) e

  pub string_ends_lem : (notes : ℕ) (u : List ℕ) → string_from notes u [] ≡ done u notes
  unfolding string_from string_in ◌>>=◌ with_notes pure
  string_ends_lem notes u = ap (λ v. done v (notes + 0)) (append-nil u) ∙ ap (done u) (add-zero notes)

-- two works whose values make one
module _ {A B C : Type 0} (f : A → B → C) where
  abbrev both : Result A → Result B → Result C
  both u v = u >>= λ a. v >>= λ b. pure (f a b)

  pub both-done : {u : Result A} {v : Result B} {x : A} {y : B} {n more : ℕ} → u ≡ done x n → v ≡ done y more
      → both u v ≡ done (f x y) (n + more)
  unfolding ◌>>=◌ with_notes pure
  both-done {x = x} {y = y} {n = n} {more = more} e g = ap₂ both e g ∙ ap (λ (k : ℕ). done (f x y) (n + k)) (add-zero more)

  pub second_stops : {u : Result A} {v : Result B} {x : A} {n k : ℕ} → u ≡ done x n → v ≡ stop k → both u v ≡ stop k
  unfolding ◌>>=◌ with_notes
  second_stops e g = ap₂ both e g

  pub first_stops : {u : Result A} (v : Result B) {k : ℕ} → u ≡ stop k → both u v ≡ stop k
  unfolding ◌>>=◌
  first_stops v e = ap (λ (w : Result A). both w v) e
