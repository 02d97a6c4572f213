-- Constants that may have a sign. Assumes nothing.
use mathlib.Core.Bool.{Bool, true, false}
use mathlib.Core.List.{List, [], ◌∷◌}
use mathlib.Core.Path.{◌≡◌, refl, sym, ap, ◌∙◌}
use Prim.Native.Nat.{ℕ, ◌+◌, ◌≤◌, max}
use native.Mathlib.Nat.{add-zero}
use native.Mathlib.Omega.{arith}
use lib.IntN.{ℤ, pos, neg_ℤ}
use lib.ListN.{length, drop}
use lib.Seq.{drop-drop}
use mir.Val.{bool_byte}
use Rattle.std.specs.Prelude.{Some, None}
use Rattle.std.proofs.Common.{inl, inr}
use Rattle.base.specs.Choice.{test_cases, true_behind, either_true}
use Rattle.base.specs.Current.{current}
use Rattle.base.specs.ListLaws.{begins_inside}
use Rattle.base.specs.Lists.{begins}
use Rattle.base.specs.Text.{bytes}
use Rattle.numbers.specs.Numbers.{GivesInt}
use Rattle.numbers.specs.declared.Int.{Int}
use Rattle.syntax.specs.Parsing.{Parsed, succeed, ◌>>=◌, mentioning, no_mentions, merge_mentions}
use Rattle.syntax.specs.Lexemes.{is_sign, unsigned, signed}
use Rattle.lexer.specs.Constants.{ConstantRead, ReadsSigned}
use Rattle.lexer.specs.declared.constants.Constant.{Constant}

-- what is read with a sign
abbrev with : (ℕ → ℤ) → Parsed ℕ → Parsed ℤ
with f x = x >>= λ (v, rest). succeed (f v) rest

with_value : (f : ℕ → ℤ) (v : ℕ) (rest : List ℕ) → with f (succeed v rest) ≡ succeed (f v) rest
unfolding ◌>>=◌ succeed mentioning no_mentions merge_mentions
with_value f v rest = refl

module _ (text : List ℕ) (at : ℕ) where
  -- where the digits stand
  abbrev from : ℕ
  from = at + bool_byte (is_sign (drop at text))

  -- a sign stands inside
  pub sign_inside : from ≤ max at (length text)
  unfolding is_sign bytes
  sign_inside =
      test_cases (λ t. at + bool_byte t ≤ max at (length text)) (is_sign (drop at text))
      (λ e. elim (either_true (begins (43 ∷ []) (drop at text)) (begins (45 ∷ []) (drop at text)) e) [
        | inl plus ↦ omega (arith, begins_inside 43 [] text at plus)
        | inr minus ↦ omega (arith, begins_inside 45 [] text at minus)
      ])
      (λ _. omega arith)

  -- which sign it is
  minus_stands : begins (45 ∷ []) (drop at text) ≡ true → is_sign (drop at text) ≡ true
  unfolding is_sign bytes
  minus_stands = true_behind _ _

  plus_stands : begins (43 ∷ []) (drop at text) ≡ true → is_sign (drop at text) ≡ true
  unfolding is_sign bytes
  plus_stands e = rw e

  none_stands : begins (45 ∷ []) (drop at text) ≡ false → begins (43 ∷ []) (drop at text) ≡ false → is_sign (drop at text) ≡ false
  unfolding is_sign bytes
  none_stands e f = rw (e, f)

  signed_minus : begins (45 ∷ []) (drop at text) ≡ true
      → signed current (drop at text) ≡ with (λ v. neg_ℤ (pos v)) (unsigned current (drop (at + 1) text))
  unfolding signed bytes
  signed_minus e = rw (signed, e, drop-drop)

  module _ (e : begins (45 ∷ []) (drop at text) ≡ false) where
    signed_plus : begins (43 ∷ []) (drop at text) ≡ true
        → signed current (drop at text) ≡ with pos (unsigned current (drop (at + 1) text))
    unfolding signed bytes
    signed_plus f = rw (signed, e, f, drop-drop)

    signed_none : begins (43 ∷ []) (drop at text) ≡ false
        → signed current (drop at text) ≡ with pos (unsigned current (drop (at + 0) text))
    unfolding signed bytes
    signed_none f = rw (signed, e, f, add-zero at)

  -- the constant is read behind its sign
  abbrev behind : (ℕ → ℤ) → Bool → Parsed ℤ
  behind f t = with f (unsigned current (drop (at + bool_byte t) text))

  signed_negative : begins (45 ∷ []) (drop at text) ≡ true
      → signed current (drop at text) ≡ with (λ v. neg_ℤ (pos v)) (unsigned current (drop from text))
  signed_negative e = signed_minus e ∙ ap (behind (λ v. neg_ℤ (pos v))) (sym (minus_stands e))

  signed_positive : begins (45 ∷ []) (drop at text) ≡ false
      → signed current (drop at text) ≡ with pos (unsigned current (drop from text))
  signed_positive e =
      test_cases (λ _. signed current (drop at text) ≡ with pos (unsigned current (drop from text)))
      (begins (43 ∷ []) (drop at text))
      (λ f. signed_plus e f ∙ ap (behind pos) (sym (plus_stands f)))
      (λ f. signed_none e f ∙ ap (behind pos) (sym (none_stands e f)))

  -- no constant
  pub reads_none : ConstantRead text from None → ReadsSigned text at None
  unfolding ◌>>=◌
  reads_none u =
      test_cases (λ _. ReadsSigned text at None) (begins (45 ∷ []) (drop at text))
      (λ e. record { read = ap (with (λ v. neg_ℤ (pos v))) u.read ∙ sym (signed_negative e); range = tt; ends = tt })
      (λ e. record { read = ap (with pos) u.read ∙ sym (signed_positive e); range = tt; ends = tt })

  module _ (c : Constant ℕ) (z : Int) (u : ConstantRead text from (Some c)) where
    reads_by : (f : ℕ → ℤ) → GivesInt z (f c.value) → signed current (drop at text) ≡ with f (unsigned current (drop from text))
        → ReadsSigned text at (Some (record { value = z; next = c.next }))
    reads_by f g e =
        record {
          read = ap (λ (v : ℤ). succeed v (drop c.next text)) g.value ∙ sym (with_value f c.value (drop c.next text)) ∙ ap (with f) u.read ∙ sym e;
          range = g.range;
          ends = (omega (arith, u.ends), u.ends.1);
        }

    -- a constant behind `-`, and one behind `+` or no sign
    pub reads_negative : begins (45 ∷ []) (drop at text) ≡ true → GivesInt z (neg_ℤ (pos c.value)) → ReadsSigned text at (Some (record { value = z; next = c.next }))
    reads_negative e g = reads_by (λ v. neg_ℤ (pos v)) g (signed_negative e)

    pub reads_positive : begins (45 ∷ []) (drop at text) ≡ false → GivesInt z (pos c.value) → ReadsSigned text at (Some (record { value = z; next = c.next }))
    reads_positive e g = reads_by pos g (signed_positive e)
